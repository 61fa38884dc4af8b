pub mod Names
mod FrameLemmas
mod KeptLemmas
mod LogLemmas
mod MergeLemmas
mod OpeningLemmas
mod PartLemmas
mod ReadingLemmas
mod VersionLemmas
