pub mod Names
pub mod ListLemmas
pub mod HappeningLemmas
pub mod DotLemmas
pub mod EndLemmas
pub mod PictureLemmas
