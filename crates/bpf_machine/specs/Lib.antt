pub mod Views
pub mod Straight
pub mod States
pub mod Advances
pub mod Ends
