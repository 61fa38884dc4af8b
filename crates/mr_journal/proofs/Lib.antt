pub mod Names
pub mod PastLemmas
pub mod Moments
pub mod Crashes
pub mod BatchLemmas
pub mod ReadLemmas
pub mod RestoreLemmas
pub mod Unique
