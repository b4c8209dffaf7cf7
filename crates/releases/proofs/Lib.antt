pub mod ReleaseLaws
pub mod ReleaseScripts
pub mod ReleaseOrder
