pub mod Names
pub mod SubscriberLemmas
pub mod UnseenLemmas
pub mod ShelfLemmas
pub mod LabelLemmas
pub mod IndexLemmas
