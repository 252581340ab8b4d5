pub mod Attendants
pub mod Moments
