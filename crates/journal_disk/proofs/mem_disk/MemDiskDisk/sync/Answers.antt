use Rattle.std.proofs.Common.{rules, ℕ, List, subst, arith}
use Rattle.journal_disk.specs.MemDisks.{Image}
use Rattle.journal_disk.specs.Platter.{Platter}
use Rattle.journal_disk.proofs.MemDiskLemmas.{synced_image}
use Rattle.journal_disk.proofs.mem_disk.MemDiskDisk.sync.Goals as goal

pub returns-clause-crash : goal.returns-clause-crash
returns-clause-crash c =
    subst (λ (d : Platter). (image : List ℕ) → Image c.self.inside.first c.note.new.self image → Image d.first d.calls image) c.self.view_is
    (synced_image c.self.inside.first c.self.inside.calls c.note.new.self (first_of (search rules, grind (arith, rules))))
