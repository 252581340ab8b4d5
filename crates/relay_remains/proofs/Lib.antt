pub mod Again
pub mod Ended
pub mod Latest
