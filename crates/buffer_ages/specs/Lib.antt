pub mod Examples
pub mod Laws
pub mod Marks
pub mod Text
pub mod Views
