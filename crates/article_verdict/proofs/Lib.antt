pub mod FewFeeds
pub mod GroupRoom
pub mod Readings
pub mod ShortTexts
pub mod SoundTerms
pub mod StoredTexts
