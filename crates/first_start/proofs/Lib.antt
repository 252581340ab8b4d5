pub mod Bare
mod Walked
