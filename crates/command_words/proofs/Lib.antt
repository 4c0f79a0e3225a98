mod FindingLemmas
mod PassLemmas
mod SettingLemmas
mod WalkLemmas
pub mod CountLemmas
