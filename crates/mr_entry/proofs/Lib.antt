-- lemmas
pub mod Names
pub mod CodecLaws
pub mod EventLemmas
pub mod EventLaws
pub mod EntryLaws
