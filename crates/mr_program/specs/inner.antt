-- what private functions promise, and what their loops keep: no public contract cites it
pub mod Drawing
pub mod Piped
pub mod Printing
pub mod Remembering
