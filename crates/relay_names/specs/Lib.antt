pub mod Examples
pub mod Names
pub mod Text
pub mod Views
