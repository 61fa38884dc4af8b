-- what private functions promise, and what their loops keep: no public contract cites it
pub mod Asked
pub mod Given
pub mod Happens
pub mod Stepped
pub mod TakenAnswer
