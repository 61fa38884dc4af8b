pub mod Names
pub mod Passing
pub mod Reading
pub mod LaneBytes
