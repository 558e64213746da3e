pub mod BookLaws
pub mod CoreLaws
pub mod LogLaws
pub mod RunLaws
