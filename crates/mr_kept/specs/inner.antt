-- what private functions promise, and what their loops keep: no public contract cites it
pub mod Closing
pub mod Entries
pub mod Opening
pub mod Telling
