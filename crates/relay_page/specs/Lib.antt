pub mod Bars
pub mod Examples
pub mod Figures
pub mod Laws
pub mod Page
pub mod Rows
pub mod Selected
pub mod Text
