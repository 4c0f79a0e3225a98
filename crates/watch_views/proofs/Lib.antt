pub mod BoardLemmas
pub mod PointLemmas
pub mod TextLemmas
