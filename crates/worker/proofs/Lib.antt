pub mod ShareLaws
pub mod WalkLaws
