pub mod Levels
pub mod Passing
pub mod Passage
