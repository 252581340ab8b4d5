pub mod Ids
pub mod Killed
pub mod Lives
pub mod Rings
pub mod Rows
