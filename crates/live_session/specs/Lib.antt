pub mod Course
pub mod Going
pub mod Carried
pub mod Commands
pub mod Counts
pub mod Remarks
pub mod Turns
pub mod Waiting
