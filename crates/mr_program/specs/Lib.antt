pub mod Drawing
pub mod Ending
pub mod Printing
pub mod Rows
pub mod Text
pub mod inner
