pub mod Calls
pub mod Extents
