pub mod Tally
pub mod Summary
pub mod Writing
pub mod Laws
