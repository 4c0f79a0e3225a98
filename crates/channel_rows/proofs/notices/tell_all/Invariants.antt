-- Each change so far was sent, and nothing is pending.
use Rattle.std.proofs.Common.{◌≡◌, ◌++◌, [], map}
use Rattle.std.specs.List.{flat_map}
use Rattle.std.specs.Vec.Iter.{into_iter_items}
use Rattle.subscribe_core.specs.Views.{told}
use Rattle.channel_rows.specs.Notices.{notice}
use Rattle.channel_rows.proofs.notices.tell_all.Given as goal

abbrev pub invariant-loop-change : goal.invariant-loop-change
invariant-loop-change l = record {
  subs : l.subs ≡ record l.fn.subs { cursor = l.upto; pending = [] };
  notices : l.notices.items ++ map notice (flat_map (told l.fn.subs.subs) (into_iter_items l.change-iterator)) ≡ map notice (l.fn.subs.pending ++ flat_map (told l.fn.subs.subs) l.fn.changes);
}
