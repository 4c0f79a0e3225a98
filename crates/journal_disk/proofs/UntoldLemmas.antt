-- The calls of a disk that reveals nothing.
use Rattle.std.proofs.Common.{inl, ℕ, arith}
use Rattle.journal_disk.specs.Disks.{Torn, Elapses, Follows}
use Rattle.journal_disk.specs.Untold.{anything}
use Rattle.journal_disk.proofs.DiskLemmas.{torn_self}

pub still : Elapses 0 0 (λ t. anything) (λ t. anything) anything
still = record { later = omega arith; nothing_else = λ t c le left. inl left; keeps = λ t c le left. left }

pub follows : (at n : ℕ) → Follows (Torn at n) anything anything
follows at n c now = (c, now, torn_self at n c)
