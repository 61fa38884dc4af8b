-- what private functions promise, and what their loops keep: no public contract cites it
pub mod Hello
pub mod Line
pub mod Stream
pub mod Talk
pub mod Host
pub mod Packed
