pub mod MarkLaws
pub mod ReadBytes
pub mod RunLaws
