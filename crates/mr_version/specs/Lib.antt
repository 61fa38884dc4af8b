pub mod Name
pub mod Order
pub mod Sets
pub mod Fault
pub mod Limits
pub mod Rows
pub mod inner
