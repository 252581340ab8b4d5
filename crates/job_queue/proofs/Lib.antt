pub mod Comparing
pub mod Lists
pub mod Passes
pub mod Splits
pub mod Steps
