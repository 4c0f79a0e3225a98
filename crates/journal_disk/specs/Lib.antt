pub mod Disks
pub mod Platter
pub mod MemDisks
pub mod MemDiskLaws
pub mod Untold
