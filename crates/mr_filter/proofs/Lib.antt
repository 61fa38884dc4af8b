pub mod Names
pub mod MeaningLemmas
pub mod SelectsLemmas
mod SearchLemmas
mod TextLemmas
mod ZipLemmas
mod CutLemmas
mod SpellingLemmas
mod CombineLemmas
mod ReadsLemmas
mod Progress
mod ColonLemmas
mod CountLemmas
mod PlaceLemmas
mod DraftLemmas
mod Reading
mod LabelLemmas
pub mod UniqueLemmas
mod WrittenLemmas
