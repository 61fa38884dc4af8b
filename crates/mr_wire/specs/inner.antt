-- what private functions promise, and what their loops keep: no public contract cites it
pub mod Bodies
pub mod Decoding
pub mod Encoding
pub mod FrameParts
pub mod Items
pub mod Labels
pub mod Rests
pub mod Watch
