pub mod Digits
pub mod Texts
