pub mod ChainLemmas
mod GivenReads
mod HearBlocks
mod HearCommon
mod HearFetches
mod HearLeaving
mod HearLines
mod HearWaiting
pub mod Phases
pub mod OfferLemmas
pub mod PlaceLemmas
mod PlanAll
mod PlanBlocks
mod PlanCommon
mod PlanFetches
mod PlanLeaving
mod PlanLines
mod PlanWaiting
pub mod TableLemmas
