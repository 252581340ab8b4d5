pub mod Choosing
pub mod Flushing
pub mod Making
pub mod Telling
