pub mod Names
pub mod RunLemmas
pub mod WatchLemmas
pub mod Laws
pub mod PartLaws
pub mod ColumnLemmas
pub mod FilterLaws
pub mod FilterLemmas
pub mod MessageLemmas
pub mod ItemLemmas
pub mod DescentLemmas
pub mod BodyLemmas
pub mod FrameLaws
pub mod PrefixLaws
pub mod DecodeLaws
pub mod PutLemmas
pub mod LengthLemmas
mod Rows
