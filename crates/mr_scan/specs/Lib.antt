pub mod Folders
pub mod Seen
pub mod Rows
pub mod inner
