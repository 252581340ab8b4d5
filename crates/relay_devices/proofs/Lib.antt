mod Rooms
mod Rounds
pub mod Sizes
