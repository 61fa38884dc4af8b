-- what private functions promise, and what their loops keep: no public contract cites it
pub mod Arrived
pub mod Carried
pub mod Explains
pub mod Named
pub mod Numbers
pub mod Ready
pub mod Way
