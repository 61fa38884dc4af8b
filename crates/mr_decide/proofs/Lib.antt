pub mod HeldLemmas
pub mod ChangingLemmas
pub mod ActLemmas
