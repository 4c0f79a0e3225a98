pub mod Headers
pub mod Messages
pub mod Reading
pub mod Input
pub mod Laws
pub mod Utf8
