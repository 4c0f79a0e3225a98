pub mod Lists
pub mod Rules
pub mod Steps
pub mod Hands
pub mod Words
pub mod Laws
