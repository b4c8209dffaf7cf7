pub mod RootsWritten
