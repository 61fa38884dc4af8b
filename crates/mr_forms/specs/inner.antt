-- what private functions promise, and what their loops keep: no public contract cites it
pub mod Additions
pub mod Columns
pub mod Fresh
pub mod Plain
pub mod PlainSteps
