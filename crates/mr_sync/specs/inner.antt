-- what private functions promise, and what their loops keep: no public contract cites it
pub mod Asking
pub mod Hello
pub mod Lists
pub mod Marks
pub mod Named
pub mod Said
pub mod Packed
pub mod Sending
pub mod Taken
pub mod Telling
pub mod Vouching
