pub mod Blocks
pub mod Folding
pub mod Linear
pub mod Numbers
pub mod Places
pub mod Sparse
pub mod Steps
pub mod Table
