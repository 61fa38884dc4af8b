pub mod Names
pub mod SlotLemmas
pub mod TableLemmas
pub mod ViewLemmas
pub mod NumberLemmas
pub mod HeldLemmas
pub mod CutLemmas
pub mod RowLemmas
pub mod GrowLemmas
pub mod GrowingLemmas
pub mod SoFarLemmas
pub mod DrawnLemmas
pub mod WalkLemmas
pub mod OnwardLemmas
mod Rows
