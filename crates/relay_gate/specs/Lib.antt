pub mod Gates
pub mod News
