pub mod Keeps
pub mod Parts
pub mod Extents
pub mod HeaderBytes
pub mod SpelledHeaders
pub mod HeaderSources
pub mod Spans
