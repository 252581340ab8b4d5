pub mod Examples
pub mod Exposition
pub mod Families
pub mod Forms
pub mod Labels
pub mod Laws
pub mod Lines
