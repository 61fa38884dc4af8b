-- lemmas
pub mod ActLemmas
pub mod FileLemmas
