use Rattle.std.proofs.Common.{◌≡◌, ◌+◌, ◌≤◌, ◌++◌, length}
use Rattle.std.specs.Vec.{vec_capacity, vec_len}
use Rattle.tx_stage.specs.Kept.{touches}
use Rattle.tx_stage.proofs.stage.listed.Given as goal

abbrev pub invariant-loop-key : goal.invariant-loop-key
invariant-loop-key l = record {
  all : l.list.items ++ touches l.key-iterator ≡ touches l.fn.touched.entries;
  room : vec_len l.list + length l.key-iterator ≤ vec_capacity l.list;
}
