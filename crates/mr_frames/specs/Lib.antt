pub mod Fault
pub mod Stream
pub mod Reader
pub mod Calls
pub mod Rows
pub mod inner
