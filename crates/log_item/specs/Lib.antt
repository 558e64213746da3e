pub mod Contents
pub mod Fitting
pub mod Items
pub mod Marks
pub mod Programs
