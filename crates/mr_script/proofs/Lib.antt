pub mod Names
pub mod Answering
pub mod Counted
pub mod Cuts
pub mod Following
pub mod LineLemmas
pub mod Lines
pub mod OneEvent
pub mod Rounds
pub mod RunLemmas
pub mod SoFar
pub mod TakenLemmas
pub mod Telling
pub mod Written
mod FrameLemmas
mod FrameRows
mod AnswerRows
mod TakenRows
mod Shown
