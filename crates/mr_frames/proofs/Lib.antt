pub mod StreamLaws
pub mod PartLaws
pub mod CallLaws
pub mod Rows
