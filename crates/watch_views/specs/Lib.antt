pub mod Boards
pub mod Held
pub mod Lines
pub mod Numbers
pub mod Turns
