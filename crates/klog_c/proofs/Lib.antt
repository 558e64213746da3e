mod GivenLaws
mod AsBox
mod Ranges
mod Sources
pub mod Walks
