pub mod MergeLemmas
pub mod PartsLemmas
pub mod RefusedLemmas
pub mod TakenLemmas
