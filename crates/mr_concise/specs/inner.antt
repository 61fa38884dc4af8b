-- what private functions promise, and what their loops keep: no public contract cites it
pub mod AnyOf
pub mod Column
pub mod Edges
pub mod Meet
pub mod Next
pub mod Runs
pub mod Source
pub mod Vector
