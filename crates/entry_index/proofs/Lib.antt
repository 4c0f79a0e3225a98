pub mod ChainLemmas
pub mod IndexLemmas
pub mod MarkLemmas
pub mod WhereLemmas
