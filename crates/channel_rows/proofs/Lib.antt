pub mod BegunLemmas
pub mod CallLemmas
pub mod FlagLemmas
pub mod PointLemmas
pub mod TellingLemmas
