-- what private functions promise, and what their loops keep: no public contract cites it
pub mod Counts
pub mod FileActs
pub mod Info
pub mod Lines
pub mod Told
