mod Repairs
mod ShutAgain
mod Unsaved
