pub mod DrawLemmas
pub mod LiveLemmas
