-- What the code finds and does is what the definitions say: pools, ports, members, tasks, one event, a list of them.
pub mod Pools
pub mod Ports
pub mod MemberPlaces
pub mod Tasks
pub mod Stepped
pub mod Moved
pub mod Happening
pub mod Loops
pub mod Made
pub mod Specs
