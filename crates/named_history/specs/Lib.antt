pub mod Fitting
pub mod Naming
pub mod Places
