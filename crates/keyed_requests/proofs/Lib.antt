pub mod CaseLemmas
pub mod OrderLemmas
pub mod OnceLemmas
pub mod SplitLemmas
