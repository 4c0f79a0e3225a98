use Rattle.std.proofs.Common.{◌≡◌, ◌++◌, ◌≤◌, drop}
use Rattle.tx_stage.specs.Looks.{looks, looks_within}
use Rattle.tx_stage.specs.State.{state_in}
use Rattle.tx_stage.proofs.contents.Contents.look.Given as goal

abbrev pub invariant-loop-want : goal.invariant-loop-want
invariant-loop-want l = record {
  whole : l.seen.items ++ looks_within (state_in l.self) l.room (drop l.want-index l.want-items) ≡ looks (state_in l.self) l.wants;
  fits : l.room ≤ 67108864;
}
