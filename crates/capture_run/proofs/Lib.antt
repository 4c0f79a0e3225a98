pub mod FrontLemmas
pub mod BegunLemmas
pub mod GoingLemmas
pub mod OnceLemmas
