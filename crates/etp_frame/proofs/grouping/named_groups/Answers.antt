use Rattle.std.proofs.Common.{◌≡◌, ◌∙◌, ap}
use Rattle.std.specs.Vec.Iter.{into_iter_items}
use Rattle.etp_frame.specs.Grouping.{entry_amount, groups}
use Rattle.etp_frame.proofs.GroupLemmas.{groups_sorted}
use Rattle.etp_frame.proofs.LoopLemmas.{entry_key, front_nil, front_more, first_sorted, rest_sorted}
use Rattle.etp_frame.proofs.grouping.named_groups.Goals as goal

pub loop-group-init : goal.loop-group-init
loop-group-init g c =
    let size = entry_amount g.T.Typed.form in
    let is : into_iter_items c.into_iter-group-iterator.result ≡ groups size c.args.limit c.args.items =
    c.into_iter-group-iterator.ensures.into_iter_gives.0 ∙ c.in_ok-in_groups.ensures ∙ ap (groups size c.args.limit) c.into_vec-entries.ensures.items in
    record {
      made = front_nil _ _ _ c.new-named.ensures.items is;
      sorted = groups_sorted entry_key size c.args.limit c.args.items _ is c.into_vec-entries.ensures.sorted;
    }

pub from_sorted-requires : goal.from_sorted-requires
from_sorted-requires g c = first_sorted entry_key c.in-Some.group c.into_vec-pairs.result.items _ _ c.in-Some.ensures.steps.0 c.loop-group.invariant.sorted c.into_vec-pairs.ensures

pub loop-group-preserved : goal.loop-group-preserved
loop-group-preserved g c = record {
  made = front_more _ _ _ _ _ _ _ c.in-Some.ensures.steps.0 c.loop-group.invariant.made c.in_ok-push.ensures.items (c.from_sorted.ensures ∙ c.into_vec-pairs.ensures);
  sorted = rest_sorted entry_key c.in-Some.group _ _ c.in-Some.ensures.steps.0 c.loop-group.invariant.sorted;
}
