pub mod Comments
pub mod Numbers
pub mod Parts
pub mod White
pub mod Words
