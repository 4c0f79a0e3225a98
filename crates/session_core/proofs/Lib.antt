pub mod ArrivingLemmas
pub mod RunLemmas
pub mod SendingLemmas
pub mod StepLemmas
pub mod FittingLemmas
pub mod WritableLemmas
pub mod JoiningLemmas
pub mod NotingLemmas
pub mod ChannelCallLemmas
mod RetouchedLemmas
mod AskingLemmas
mod MarkedLemmas
mod BesideLemmas
mod NamedLemmas
mod AloneLemmas
mod RequestingLemmas
mod CommittedLemmas
mod ReachedLemmas
pub mod MessagePartLemmas
mod HearingLemmas
pub mod TellingLemmas
mod OwingLemmas
pub mod StandingLemmas
pub mod StartingLemmas
pub mod StoppingLemmas
pub mod MovingLemmas
mod NewsingLemmas
pub mod WalkingLemmas
pub mod ArrivalLemmas
pub mod SubscribingLemmas
pub mod StreamingLemmas
mod FrontLemmas
