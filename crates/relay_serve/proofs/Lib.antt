mod Kept
mod ServeFaults
mod Starts
