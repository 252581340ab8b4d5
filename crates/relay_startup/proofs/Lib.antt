mod CauseLemmas
mod Counted
pub mod Faults
mod FirstHistory
mod HeadsRead
mod Kept
mod Listed
mod NamesKept
pub mod Sizes
pub mod ToldCauses
mod Uncalled
