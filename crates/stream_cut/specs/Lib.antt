pub mod Cuts
pub mod Dots
pub mod Gone
pub mod Look
pub mod Past
pub mod Steps
pub mod Stream
