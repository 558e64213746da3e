pub mod Code
pub mod Views
pub mod Spelling
