pub mod Digits
pub mod Searches
pub mod Words
