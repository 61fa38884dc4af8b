-- what private functions promise, and that a letter only adds to what was told: no public contract cites it
pub mod Telling
