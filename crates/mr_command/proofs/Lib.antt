pub mod Names
pub mod Cut
pub mod LabelLemmas
pub mod PieceLemmas
pub mod Readings
pub mod There
pub mod WordLemmas
