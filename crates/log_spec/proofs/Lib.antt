pub mod FittingBatches
pub mod FittingRows
pub mod LogLaws
pub mod NameLaws
pub mod OneRows
pub mod RowOrigins
