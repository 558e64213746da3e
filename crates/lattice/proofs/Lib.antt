pub mod Below
pub mod Bits
pub mod Runs
