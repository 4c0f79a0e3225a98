pub mod Reading
pub mod Form
pub mod Running
pub mod Laws
