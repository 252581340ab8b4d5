pub mod Figures
pub mod Filled
pub mod Lives
pub mod Pausing
pub mod RunTotals
pub mod Running
