pub mod Channels
pub mod Generator
