use Rattle.std.proofs.Common.{length, ◌≡◌, ◌++◌, ◌+◌, ◌-◌, ◌*◌, drop}
use Rattle.array_store.specs.Shape.{sizes}
use Rattle.array_store.specs.Region.{sliced}
use Rattle.array_store.proofs.RowLemmas.{rows_read}
use Rattle.array_store.proofs.region.+read_region.Given as goal

abbrev pub decreases-read_region : goal.decreases-read_region
decreases-read_region g l = length l.dims.now

-- what was read plus what the rows that are left give is what was wanted
abbrev pub invariant-loop-row : goal.invariant-loop-row
invariant-loop-row g l = l.out.items ++ rows_read (sliced (sizes l.outer.dims.now) (sizes l.outer.starts.now) (sizes l.outer.counts.now)) l.width (l.rows - l.row) (drop ((l.first + l.row) * l.width) l.items)
    ≡ l.fn.out.items ++ sliced (sizes l.dims) (sizes l.starts) (sizes l.counts) l.items
