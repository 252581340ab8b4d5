pub mod Examples
pub mod Feeds
pub mod Left
pub mod Permission
pub mod Taking
