pub mod Changes
pub mod Going
pub mod Keys
pub mod Tables
