pub mod OneMore
pub mod ReadBack
pub mod SaidAgain
pub mod WrittenLines
pub mod WrittenWords
