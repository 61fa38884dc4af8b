-- The names that most proofs use, by subject.
pub mod Lists
pub mod Wire
pub mod Replica
pub mod Sessions
pub mod Model
pub mod Laws
pub mod Mails
pub mod World
