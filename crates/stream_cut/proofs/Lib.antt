pub mod CutterLemmas
pub mod LimitLemmas
pub mod NextLemmas
pub mod PassLemmas
pub mod PastLemmas
pub mod PlaceLemmas
pub mod RunLemmas
pub mod TextLemmas
