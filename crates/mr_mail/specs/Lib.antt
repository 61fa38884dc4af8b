pub mod Admits
pub mod Day
pub mod Fault
pub mod Flag
pub mod Label
pub mod Mail
pub mod Limits
pub mod Rows
