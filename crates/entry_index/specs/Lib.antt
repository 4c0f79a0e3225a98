pub mod Chains
pub mod Index
pub mod Marks
pub mod Steps
pub mod Where
