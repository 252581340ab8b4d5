pub mod Syncing
pub mod Watched
