pub mod Arrays
pub mod Codes
pub mod Going
pub mod Operations
pub mod Refusals
pub mod Region
pub mod Shape
pub mod Table
