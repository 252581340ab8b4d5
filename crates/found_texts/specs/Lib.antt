pub mod Gathering
pub mod Held
pub mod Judging
pub mod Reading
