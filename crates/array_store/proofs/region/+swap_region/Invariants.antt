use Rattle.std.proofs.Common.{length, ◌+◌, ◌-◌, ◌*◌}
use Rattle.array_store.specs.Shape.{sizes}
use Rattle.array_store.specs.Region.{sliced, patched}
use Rattle.array_store.proofs.StepLemmas.{Swapping}
use Rattle.array_store.proofs.region.+swap_region.Given as goal

abbrev pub decreases-swap_region : goal.decreases-swap_region
decreases-swap_region g l = length l.dims.now

-- the rows that are done and the others as they will be make up what was wanted
abbrev pub invariant-loop-row : goal.invariant-loop-row
invariant-loop-row g l = Swapping (sliced (sizes l.outer.dims.now) (sizes l.outer.starts.now) (sizes l.outer.counts.now)) (patched (sizes l.outer.dims.now) (sizes l.outer.starts.now) (sizes l.outer.counts.now))
    l.width l.part ((l.first + l.row) * l.width) (l.row * l.part) (l.rows - l.row) l.fn.items l.fn.values l.items l.values
    (patched (sizes l.dims) (sizes l.starts) (sizes l.counts) l.fn.items l.fn.values) (sliced (sizes l.dims) (sizes l.starts) (sizes l.counts) l.fn.items)
