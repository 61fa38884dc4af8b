-- what private functions promise, and what their loops keep: no public contract cites it
pub mod Doing
pub mod Fault
pub mod Frame
pub mod Run
pub mod Sync
pub mod Waiting
