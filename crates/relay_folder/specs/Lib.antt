pub mod Behind
pub mod Files
pub mod Keeping
pub mod Origin
pub mod Place
pub mod Words
