pub mod BeginningLemmas
pub mod PeersLemmas
