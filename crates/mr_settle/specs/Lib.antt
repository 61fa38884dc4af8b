pub mod History
pub mod Explains
pub mod Stuck
pub mod Kept
pub mod Rows
pub mod inner
