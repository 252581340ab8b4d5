pub mod Groups
pub mod Jobs
pub mod Steps
pub mod Writers
