-- what private functions promise, and what their loops keep: no public contract cites it
pub mod Contents
pub mod Issued
pub mod Next
pub mod Parts
pub mod Prepare
pub mod Replay
pub mod Sound
pub mod Taking
