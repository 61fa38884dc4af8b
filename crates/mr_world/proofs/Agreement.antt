-- How parts of the agreement come through a change: those that stay, and those that a version, a record or an entry more makes new.
pub mod Parts
pub mod Trails
pub mod Feeds
pub mod Staying
pub mod OneMore
pub mod Learning
pub mod Issuing
pub mod Editing
pub mod Taking
pub mod Receiving
