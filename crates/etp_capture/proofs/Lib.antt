pub mod FoundLemmas
pub mod MagicLemmas
pub mod WriterLemmas
pub mod HeadLemmas
pub mod CaptureLemmas
pub mod TakenLemmas
pub mod AnswerLemmas
