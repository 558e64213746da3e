pub mod AuditRows
pub mod ItemOffsets
pub mod NameFacts
pub mod StepFacts
pub mod StreamLaws
