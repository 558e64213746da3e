pub mod RowBatches
pub mod FirstRows
pub mod OpenBatches
