pub mod Derived
pub mod Regions
pub mod Decoded
pub mod Proper
