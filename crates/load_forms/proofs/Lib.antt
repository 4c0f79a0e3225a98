pub mod ChangeLemmas
pub mod CountingLemmas
pub mod EndingLemmas
pub mod TallyLemmas
pub mod SizeLemmas
