pub mod Keyed
pub mod Revision
pub mod Trail
pub mod MadeWith
pub mod Rows
pub mod inner
