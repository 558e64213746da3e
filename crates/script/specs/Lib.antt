pub mod Words
pub mod Commands
pub mod Faults
pub mod Texts
