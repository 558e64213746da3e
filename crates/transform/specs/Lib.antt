pub mod Backlogs
pub mod Outlets
pub mod Transforms
pub mod Parts
pub mod Tellings
pub mod Streams
pub mod Transformed
