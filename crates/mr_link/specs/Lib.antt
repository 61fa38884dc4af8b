pub mod Link
pub mod Fault
pub mod LaneLink
pub mod Wire
pub mod Rows
pub mod inner
