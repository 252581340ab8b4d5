mod Steps
mod Texts
