pub mod PathCuts
pub mod UpdateLengths
