pub mod Numerals
pub mod Points
pub mod Lines
pub mod Marks
pub mod Reads
pub mod Spelling
