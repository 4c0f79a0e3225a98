pub mod PointLemmas
pub mod SubLemmas
pub mod CallLemmas
pub mod StreamLemmas
