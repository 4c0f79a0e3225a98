pub mod Keys
pub mod Sending
pub mod Keyed
pub mod Plain
pub mod Laws
pub mod Uris
