pub mod AheadLemmas
mod BucketLemmas
pub mod FetchLemmas
pub mod FrontLemmas
pub mod NumberLemmas
pub mod OpenLemmas
pub mod ReadBackLemmas
pub mod ReadLemmas
mod RunLemmas
pub mod Spans
pub mod StartLemmas
pub mod StartedLemmas
pub mod StopLemmas
pub mod Storing
pub mod TiedLemmas
