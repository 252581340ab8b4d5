pub mod Fits
pub mod SameNames
pub mod Turns
pub mod Under
pub mod Waiting
