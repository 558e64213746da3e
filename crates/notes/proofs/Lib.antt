pub mod Kept
pub mod Derived
pub mod Joined
pub mod Lookups
pub mod Needs
pub mod Order
pub mod Loop
pub mod Steps
