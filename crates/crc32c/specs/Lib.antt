pub mod Register
pub mod Window
