pub mod Accounts
mod Audited
mod Begins
mod Blamed
mod Each
mod Entries
mod Gaining
mod Kept
mod Lists
mod Orders
mod OpenedBuffers
mod Parts
mod Pauses
mod Posted
mod Refusals
mod Remembering
mod Rest
pub mod Rooms
mod Shuts
mod BuffersInTurn
mod StartedBuffers
mod StartedRelay
mod Tells
pub mod Sessions
pub mod Sent
mod Trials
