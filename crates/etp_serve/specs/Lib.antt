pub mod Ends
pub mod Events
pub mod Talks
pub mod Steps
pub mod Laws
pub mod Served
pub mod Accepted
pub mod Closing
