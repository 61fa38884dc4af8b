pub mod Frames
pub mod Crash
pub mod Rows
