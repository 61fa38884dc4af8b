-- what private functions promise, and what their loops keep: no public contract cites it
pub mod FragmentIndex
pub mod GapVector
pub mod Index
pub mod RevisionList
pub mod Room
pub mod Unheld
