pub mod Logs
pub mod Catalogue
pub mod Worlds
pub mod RowParts
