mod Appends
mod Beginnings
mod Checked
mod Cuts
mod Entries
mod Existence
mod Fields
mod Foldings
mod FoldsIn
mod Knows
mod LastFolding
pub mod Rooms
mod Said
mod Sums
mod Texts
