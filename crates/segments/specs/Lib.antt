pub mod Listed
pub mod Layout
