pub mod State
pub mod Messages
pub mod Asking
pub mod Joining
pub mod Answers
pub mod Notices
pub mod Taking
pub mod Laws
