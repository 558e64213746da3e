pub mod BlockLaws
pub mod PartLaws
pub mod RefLaws
pub mod RowLaws
