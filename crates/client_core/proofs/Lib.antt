pub mod AskLemmas
pub mod ChannelLemmas
pub mod CopyLemmas
pub mod FoldLemmas
pub mod NumberingLemmas
pub mod RefusalLemmas
pub mod TakeLemmas
