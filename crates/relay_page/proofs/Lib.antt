mod Escapes
mod Hundredths
mod Kept
mod Places
mod Together
