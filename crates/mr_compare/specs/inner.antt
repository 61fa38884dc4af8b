-- what private functions promise, and what their loops keep: no public contract cites it
pub mod Held
pub mod Joining
pub mod Left
pub mod MailsLeft
pub mod NoteParts
