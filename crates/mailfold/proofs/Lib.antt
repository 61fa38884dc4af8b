pub mod OldLogLemmas
