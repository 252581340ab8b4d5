pub mod AcceptedOnce
pub mod Accepting
pub mod Articles
pub mod BelowFronts
pub mod BufferFigures
pub mod Counted
pub mod Counts
pub mod Cuts
mod Dues
pub mod Expirers
mod FailedReads
pub mod FeedFigures
pub mod FetchPhases
pub mod Forgotten
pub mod FoundLive
pub mod Gained
pub mod Gone
pub mod HashPlaces
pub mod JobsTold
pub mod KnownTokens
pub mod OfferDues
pub mod OfferSteps
pub mod OfferTurns
pub mod OneAnswer
pub mod OneDue
pub mod OneJudgement
pub mod OneText
pub mod OneTurn
pub mod OneWrite
pub mod OpenBlocks
pub mod OpenOffers
pub mod OpenSteps
pub mod OpenWrites
pub mod OwnFeeds
pub mod Permitted
mod Playing
mod Premises
pub mod ReadFronts
pub mod Reasons
mod Recording
mod RefusalDues
pub mod Remembered
mod RingArticles
pub mod Runs
pub mod RunsOfJobs
pub mod Sessions
pub mod Settling
pub mod StoredOnce
pub mod Tests
mod Turning
mod Unstored
pub mod WriterSteps
pub mod WritesLeft
mod Writing
