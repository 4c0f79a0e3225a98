use Rattle.std.proofs.Common.{◌≡◌, drop}
use Rattle.subscribe_core.specs.Views.{sub_of}
use Rattle.subscribe_core.proofs.standing.sub_of.Given as goal

abbrev pub invariant-loop-sub : goal.invariant-loop-sub
invariant-loop-sub l = sub_of l.channel (drop l.sub-index l.subs) ≡ sub_of l.channel l.subs
