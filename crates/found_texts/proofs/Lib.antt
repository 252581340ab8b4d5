pub mod AmongLemmas
pub mod GatherLemmas
pub mod HeldLemmas
pub mod JudgeLemmas
pub mod LeftLemmas
pub mod ReadLemmas
