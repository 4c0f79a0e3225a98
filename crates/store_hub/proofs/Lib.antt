pub mod CountLemmas
pub mod KeepingLemmas
pub mod AskedLemmas
pub mod EnteredLemmas
pub mod ReadingLemmas
