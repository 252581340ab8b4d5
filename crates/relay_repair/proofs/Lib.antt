pub mod EachStore
pub mod FoundOver
pub mod Handed
pub mod RefusedAs
pub mod Repaired
pub mod Revived
pub mod Unshut
