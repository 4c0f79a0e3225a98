pub mod Views
pub mod Subscriptions
pub mod Calls
pub mod Streams
