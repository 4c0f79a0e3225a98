pub mod Core
pub mod Dataspace
pub mod Transaction
