pub mod Began
pub mod Opening
pub mod Own
pub mod Posts
pub mod Remembering
pub mod Rules
pub mod Shards
pub mod Unposted
