pub mod Answered
pub mod ByteHeaders
pub mod HeadersLaws
pub mod Loop
pub mod Spelled
pub mod Walks
pub mod Within
pub mod Written
