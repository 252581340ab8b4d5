pub mod Config
pub mod Verdict
