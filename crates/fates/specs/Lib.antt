pub mod Fates
pub mod Totals
pub mod Rejects
