pub mod DiskLemmas
pub mod MemDiskLemmas
pub mod UntoldLemmas
