pub mod AheadLemmas
mod Arms
pub mod Beginnings
mod Chunks
mod Dispatch
mod Dues
mod Feeds
pub mod Fillings
mod Forgetting
mod Found
mod Hearing
pub mod Idleness
mod GroupWriters
mod Killed
pub mod Left
mod Marks
mod PeerLemmas
mod Pushing
mod Queues
mod ReadArm
pub mod Records
mod Refusing
mod Reporting
mod Restarts
mod RunLemmas
mod Serving
mod SessionSteps
pub mod Starts
pub mod Stops
mod Turning
mod Writers
mod Writings
