pub mod Few
pub mod Nexts
pub mod Ordered
pub mod ReadBack
pub mod Sinces
