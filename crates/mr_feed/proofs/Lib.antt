pub mod FoldLemmas
pub mod PortLemmas
