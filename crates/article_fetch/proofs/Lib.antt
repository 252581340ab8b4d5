mod EmptyLinePlaces
mod FaultReplies
pub mod FirstContents
pub mod Fronts
mod Hearing
pub mod Lines
mod Overviews
mod Readings
pub mod Rooms
pub mod Walks
