-- lemmas
pub mod Names
pub mod Replying
pub mod Taking
pub mod Stepping
pub mod Running
pub mod Leaving
pub mod Feeding
pub mod Reaching
pub mod Opening
pub mod Noding
