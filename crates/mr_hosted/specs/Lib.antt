pub mod Acts
pub mod Outbox
pub mod Hosted
pub mod Commit
pub mod Rows
