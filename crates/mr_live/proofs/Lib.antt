pub mod Crossing
pub mod Ends
pub mod Ids
pub mod Meeting
pub mod ReadLemmas
pub mod Runnable
