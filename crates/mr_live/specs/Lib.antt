pub mod Fault
pub mod Plan
pub mod Telling
pub mod Rounds
pub mod Live
pub mod Rows
pub mod inner
