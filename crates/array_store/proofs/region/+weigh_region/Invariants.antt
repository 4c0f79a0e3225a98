use Rattle.std.proofs.Common.{length, ◌≡◌, ◌+◌, ◌-◌, ◌*◌, ◌^◌, ◌≤◌, drop}
use Rattle.etp_values.specs.Weight.{bytes_weight, capped, weigh}
use Rattle.array_store.specs.Shape.{sizes}
use Rattle.array_store.specs.Region.{sliced}
use Rattle.array_store.proofs.RowLemmas.{rows_read}
use Rattle.array_store.proofs.region.+weigh_region.Given as goal

abbrev pub decreases-weigh_region : goal.decreases-weigh_region
decreases-weigh_region l = length l.dims.now

-- the size so far plus that of the rows that are left is what was wanted
abbrev pub invariant-loop-row : goal.invariant-loop-row
invariant-loop-row l = record {
  total : capped (l.sum + weigh bytes_weight (rows_read (sliced (sizes l.outer.dims.now) (sizes l.outer.starts.now) (sizes l.outer.counts.now)) l.width (l.rows - l.row) (drop ((l.first + l.row) * l.width) l.texts)))
      ≡ capped (weigh bytes_weight (sliced (sizes l.dims) (sizes l.starts) (sizes l.counts) l.texts));
  fits : l.sum ≤ 2 ^ 64 - 1;
}
