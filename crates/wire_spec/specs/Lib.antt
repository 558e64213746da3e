pub mod BatchReading
pub mod BatchSpelling
pub mod Checksum
pub mod Memory
pub mod RecordReading
pub mod RecordSpelling
pub mod Varint
pub mod Writing
