pub mod ReadParts
pub mod Stores
pub mod Moves
pub mod Calls
pub mod Passes
