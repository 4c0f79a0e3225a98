pub mod LongerLemmas
pub mod BlockLemmas
pub mod RestLemmas
pub mod TurnLemmas
pub mod OpenLemmas
pub mod EntryLemmas
pub mod GoingLemmas
pub mod PassageLemmas
