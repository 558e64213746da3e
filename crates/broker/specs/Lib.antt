pub mod Answers
pub mod Audits
pub mod Deployments
pub mod Fetches
pub mod ItemRanges
pub mod Layouts
pub mod Steps
pub mod Streams
