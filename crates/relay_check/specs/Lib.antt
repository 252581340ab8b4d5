pub mod Adding
pub mod Looking
