-- what private functions promise, and what their loops keep: no public contract cites it
pub mod Each
pub mod Entries
pub mod Folded
pub mod Grouping
pub mod Groups
pub mod Growth
pub mod Lacking
pub mod Normal
pub mod Placed
pub mod Room
pub mod Told
