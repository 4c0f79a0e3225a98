pub mod NameLemmas
pub mod PieceLemmas
pub mod TableLemmas
pub mod ValueLemmas
pub mod WritingLemmas
pub mod FeedingLemmas
