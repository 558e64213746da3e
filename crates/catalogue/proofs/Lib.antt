pub mod CoreLaws
pub mod PublicationLaws
pub mod VersionLaws
