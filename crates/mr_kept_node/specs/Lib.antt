pub mod Letter
pub mod Keeping
pub mod Machine
pub mod Node
pub mod Rows
pub mod inner
