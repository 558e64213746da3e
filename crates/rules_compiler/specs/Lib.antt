pub mod Faults
pub mod Code
pub mod Pieces
pub mod Terms
pub mod Tests
pub mod Actions
pub mod Rules
pub mod Programs
