-- What holds of every run of a world: the headline, no Forged, replies of sets, and the promise.
pub mod WholeRuns
pub mod Genuine
pub mod GoingOn
pub mod Replies
pub mod BySets
pub mod Promises
