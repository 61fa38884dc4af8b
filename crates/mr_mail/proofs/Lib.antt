mod AdmitsLemmas
pub mod DayLemmas
pub mod FlagLemmas
pub mod LabelLemmas
