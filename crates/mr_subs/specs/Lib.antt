pub mod Subscriber
pub mod Unseen
pub mod Index
pub mod Rows
pub mod inner
