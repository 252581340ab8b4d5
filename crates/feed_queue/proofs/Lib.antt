mod DeskLemmas
mod KeepLemmas
pub mod LeftLaws
mod LeftLemmas
mod PermissionLemmas
mod RingLemmas
mod SomeFeeds
pub mod TakenItems
