pub mod AddedLines
pub mod AddedOver
