pub mod KeptTables
pub mod TableLaws
