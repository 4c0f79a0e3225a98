pub mod Naming
pub mod Sizes
pub mod Reading
pub mod Changing
pub mod Arrays
