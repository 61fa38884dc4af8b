pub mod Names
pub mod Groundwork
pub mod Agreement
pub mod Drawing
pub mod Moving
pub mod Keeping
pub mod Histories
pub mod Running
mod Worked
