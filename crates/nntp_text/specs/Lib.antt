pub mod Command
pub mod MessageId
pub mod Reply
pub mod Words
