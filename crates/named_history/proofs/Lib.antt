pub mod FeedLemmas
pub mod PlaceLemmas
pub mod TurnLemmas
