pub mod Address
pub mod Words
pub mod Forms
