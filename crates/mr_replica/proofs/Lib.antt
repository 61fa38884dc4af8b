pub mod Names
pub mod FragmentLemmas
pub mod Choice
pub mod Below
pub mod Staying
pub mod Folding
pub mod Keeping
pub mod Highest
pub mod Taking
pub mod Told
pub mod Merging
pub mod Releasing
pub mod PullLemmas
pub mod Answered
pub mod PieceLemmas
pub mod Kept
pub mod Preparing
pub mod Replies
pub mod Decided
pub mod Seen
pub mod Alike
pub mod FiveKinds
pub mod Replaying
pub mod Retiring
pub mod One
mod Rows
mod RecordRows
