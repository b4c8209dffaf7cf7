pub mod LengthTable
