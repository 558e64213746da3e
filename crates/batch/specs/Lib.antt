pub mod Batches
pub mod Heads
pub mod Latest
pub mod Streams
pub mod Packed
