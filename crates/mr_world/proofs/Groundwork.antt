-- What the other proofs stand on: lists and tests, tables, revisions in version order.
pub mod Tools
pub mod Tables
pub mod Orders
pub mod AtPlaces
