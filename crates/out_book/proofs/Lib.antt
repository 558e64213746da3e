pub mod DoneLaws
pub mod BookLaws
pub mod Origins
pub mod TieLaws
pub mod Runs
pub mod Taking
pub mod Rising
pub mod Searches
