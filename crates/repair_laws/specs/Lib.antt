pub mod FoundAll
