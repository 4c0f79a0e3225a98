pub mod Words
pub mod Kept
pub mod Notes
pub mod Turns
pub mod Passes
pub mod Laws
