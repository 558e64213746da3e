pub mod Blocks
pub mod BookRows
pub mod ItemRows
pub mod RowParts
pub mod RowRefs
