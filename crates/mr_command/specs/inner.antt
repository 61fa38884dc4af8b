-- what private functions promise, and what their loops keep: no public contract cites it
pub mod List
pub mod Taking
pub mod Words
