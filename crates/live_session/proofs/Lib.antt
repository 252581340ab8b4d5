pub mod Carrying
pub mod Closing
pub mod Hearings
pub mod Sharings
pub mod LiveSessions
mod Remarking
pub mod Rounds
pub mod Differs
