pub mod Ancestors
pub mod Highest
pub mod Digest
pub mod Told
pub mod Versions
pub mod History
pub mod Rows
pub mod inner
