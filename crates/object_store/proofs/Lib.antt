pub mod GatheredLemmas
pub mod ListedLemmas
