mod DecidingLemmas
mod SpeakingLemmas
mod ReplyingLemmas
mod GrantingLemmas
mod StagedLemmas
mod WitnessLemmas
