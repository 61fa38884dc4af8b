pub mod Peers
pub mod Verdict
pub mod Beginning
pub mod Rows
pub mod inner
