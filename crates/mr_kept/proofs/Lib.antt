-- lemmas
pub mod Names
pub mod EntryLemmas
pub mod RunLemmas
pub mod RoomLemmas
pub mod KeptLemmas
pub mod CloseLemmas
pub mod IssuedLemmas
pub mod OpenLemmas
pub mod BeginLemmas
pub mod RefusingLemmas
pub mod LogLemmas
pub mod WholeLemmas
pub mod LeftLemmas
pub mod TellLemmas
