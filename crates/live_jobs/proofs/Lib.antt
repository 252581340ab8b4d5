pub mod AllTold
pub mod Borne
pub mod Counts
pub mod Ends
pub mod HandedIn
pub mod Jobs
pub mod Lefts
pub mod Passes
pub mod Plans
mod PostingLemmas
pub mod Rows
pub mod Taken
pub mod Told
pub mod Unused
pub mod Writers
