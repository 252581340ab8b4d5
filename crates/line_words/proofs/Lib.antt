pub mod Behind
pub mod Cuts
pub mod LineWords
pub mod Numerals
