pub mod Handing
pub mod Head
pub mod Refusals
pub mod Silence
