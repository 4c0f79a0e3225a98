pub mod GivenLemmas
pub mod HeaderLemmas
pub mod StepLemmas
