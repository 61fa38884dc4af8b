-- lemmas
pub mod Names
pub mod ListLemmas
pub mod HighestLemmas
pub mod DigestLemmas
pub mod ToldLemmas
pub mod VersionLemmas
pub mod HistoryLemmas
pub mod Rows
