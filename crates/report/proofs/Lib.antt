pub mod CountLaws
pub mod PlaceLaws
pub mod WrittenLaws
