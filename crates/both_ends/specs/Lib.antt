pub mod Beginnings
pub mod Copies
pub mod Ends
pub mod Hearing
pub mod News
pub mod Notices
pub mod Stops
