mod Appends
pub mod ClaimLemmas
pub mod CountLaws
mod CountLemmas
mod EachLemmas
mod ExpiryLemmas
pub mod Fields
mod FitLemmas
pub mod Histories
pub mod JoinLemmas
pub mod LastingJoins
pub mod LastingLaws
mod LastingLemmas
pub mod LastingOrder
mod Lists
mod Loop
mod MarkLemmas
mod OnlyIdsLemmas
mod OwnLemmas
mod RoomLemmas
mod RoomOfAll
mod ShardsLemmas
pub mod Tests
pub mod Tokens
