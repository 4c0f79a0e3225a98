pub mod Utf8Lemmas
pub mod BufferLemmas
pub mod MessageLemmas
pub mod LookLemmas
pub mod LawLemmas
pub mod JoinLemmas
pub mod CutLemmas
