pub mod CaseLemmas
pub mod PathLemmas
