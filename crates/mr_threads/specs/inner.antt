-- what private functions promise, and what their loops keep: no public contract cites it
pub mod Core
pub mod Ends
pub mod Exchange
pub mod Outfit
pub mod Roles
pub mod Running
pub mod Settled
pub mod Talk
