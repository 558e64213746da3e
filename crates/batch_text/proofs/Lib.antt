pub mod TextLaws
pub mod CauseLaws
pub mod ListingLaws
