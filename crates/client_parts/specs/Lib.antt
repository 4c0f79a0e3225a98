pub mod Changes
pub mod Grouping
pub mod Joining
