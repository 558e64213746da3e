pub mod Numbers
pub mod Searches
pub mod LineTexts
pub mod FileTexts
pub mod NoImages
pub mod LastPlaces
