pub mod Processed
pub mod Walks
