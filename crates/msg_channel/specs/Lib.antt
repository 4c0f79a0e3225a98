pub mod ChannelRecords
pub mod ChannelSubscribe
pub mod ChannelDataLoad
