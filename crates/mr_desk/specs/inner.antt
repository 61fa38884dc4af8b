-- what private functions promise, and what their loops keep: no public contract cites it
pub mod Draft
pub mod Kept
pub mod Log
pub mod Merge
pub mod Opening
