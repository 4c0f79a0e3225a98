pub mod Unplayed
