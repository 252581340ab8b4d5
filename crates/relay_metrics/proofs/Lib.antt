pub mod Cut
pub mod Escapes
pub mod LinesRead
pub mod NumbersRead
pub mod Puts
pub mod Samples
pub mod Spaced
pub mod Together
