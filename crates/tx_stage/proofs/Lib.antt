pub mod AlteredLemmas
pub mod LookLemmas
pub mod OverlayLemmas
pub mod PatchLemmas
pub mod PlanLemmas
pub mod RefusedLemmas
pub mod StageLemmas
pub mod StandingLemmas
