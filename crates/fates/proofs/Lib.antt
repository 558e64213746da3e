pub mod CountLaws
pub mod RejectLaws
pub mod FateLaws
