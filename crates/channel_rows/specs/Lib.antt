pub mod Ids
pub mod Opens
pub mod Points
pub mod Metadata
pub mod Loads
pub mod Notices
pub mod Subscriptions
