pub mod Names
pub mod Serving
pub mod Saying
pub mod Speaking
pub mod SettlingLaws
pub mod WholeRun
