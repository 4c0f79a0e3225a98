pub mod BetweenLemmas
pub mod BlockLemmas
pub mod ChunkLemmas
pub mod ItemLemmas
pub mod OrderedLemmas
pub mod PartLemmas
pub mod ReadLemmas
pub mod RunLemmas
