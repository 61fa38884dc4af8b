-- what private functions promise, and what their loops keep: no public contract cites it
pub mod MemoryFound
pub mod Names
pub mod Parts
pub mod Quiet
