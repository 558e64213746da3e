pub mod Books
pub mod CoreTie
pub mod Index
