-- what private functions promise, and what their loops keep: no public contract cites it
pub mod Deciding
pub mod Expiring
pub mod HeldSide
pub mod Lacking
pub mod Released
pub mod Resting
pub mod Settings
pub mod Settling
pub mod Sizes
pub mod Straying
pub mod Taking
pub mod Seeing
