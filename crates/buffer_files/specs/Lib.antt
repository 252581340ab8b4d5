pub mod Faults
pub mod Files
pub mod History
pub mod Reasons
pub mod Synced
