pub mod ListLemmas
pub mod OwnLemmas
pub mod PlaceLemmas
pub mod RuleLemmas
pub mod KeptLemmas
pub mod ToldLemmas
