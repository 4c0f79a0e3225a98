pub mod Kinds
pub mod Frames
pub mod Found
pub mod Reader
pub mod Writer
pub mod Capture
pub mod Laws
