pub mod Totals
pub mod Holdings
pub mod Snapshots
pub mod Texts
pub mod Writes
