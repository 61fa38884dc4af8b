-- Each event of a world is one that the rules allow, and what agreed agrees after it: Refinement is all of it.
pub mod ByParts
pub mod Asking
pub mod Refines
pub mod ByReplica
pub mod IssueMoves
pub mod RecordMoves
pub mod Opening
pub mod Receipts
pub mod PortMoves
pub mod Refinement
