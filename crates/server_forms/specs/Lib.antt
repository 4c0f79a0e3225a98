pub mod Words
pub mod Commands
pub mod Report
pub mod Counts
pub mod Top
pub mod Program
