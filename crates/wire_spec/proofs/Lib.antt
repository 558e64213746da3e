pub mod BatchLaws
pub mod Checksums
pub mod MoreBytes
pub mod RecordLaws
pub mod Varints
pub mod Beginnings
