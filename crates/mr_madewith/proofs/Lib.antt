pub mod Rising
pub mod Found
pub mod Inserted
pub mod MadeWithLemmas
