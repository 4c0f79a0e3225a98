pub mod Layout
pub mod Gates
pub mod Rest
pub mod Opening
