pub mod Failing
pub mod Heads
pub mod Image
pub mod Seen
pub mod Store
pub mod Tally
