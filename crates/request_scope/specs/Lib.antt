pub mod Scope
pub mod Finding
pub mod Reply
