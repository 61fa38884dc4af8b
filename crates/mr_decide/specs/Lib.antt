pub mod Held
pub mod Changing
pub mod Deciding
pub mod Told
pub mod Rows
pub mod inner
