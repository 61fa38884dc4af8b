-- what private functions promise, and what their loops keep: no public contract cites it
pub mod Highest
pub mod History
pub mod Told
pub mod Versions
