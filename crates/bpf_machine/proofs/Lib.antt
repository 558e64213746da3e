pub mod ReadParts
pub mod Loads
pub mod Pieces
pub mod Walks
pub mod Rows
pub mod Bounds
pub mod Only
pub mod Going
