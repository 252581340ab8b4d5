pub mod Parcels
pub mod Delivery
pub mod Passes
