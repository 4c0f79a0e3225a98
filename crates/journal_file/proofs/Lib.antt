pub mod Pieces
pub mod Settling
pub mod GateLemmas
pub mod LayoutLemmas
pub mod AppendLemmas
pub mod OpeningLemmas
pub mod ReadingLaws
