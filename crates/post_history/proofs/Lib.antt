pub mod Adding
pub mod Begun
pub mod Fronts
pub mod PostLemmas
pub mod PassingLemmas
pub mod RememberLemmas
pub mod OnceLaws
pub mod ShardsLemmas
