-- what private functions promise, and what their loops keep: no public contract cites it
pub mod Joining
pub mod Saying
pub mod Step
pub mod Turn
pub mod Voice
