pub mod Answered
pub mod Best
pub mod Faults
pub mod Passing
