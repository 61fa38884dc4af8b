-- what private functions promise, and what their loops keep: no public contract cites it
pub mod Held
pub mod Merge
pub mod Slots
pub mod Table
