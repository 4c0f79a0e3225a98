use Rattle.std.proofs.Common.{◌∙◌, ◌++◌, ap, map}
use Rattle.std.specs.Vec.Iter.{into_iter_items}
use Rattle.subscribe_core.specs.Subscriptions.{Subbed}
use Rattle.subscribe_core.specs.Views.{told}
use Rattle.channel_rows.specs.Notices.{notice}
use Rattle.channel_rows.proofs.TellingLemmas.{told_more}
use Rattle.channel_rows.proofs.notices.tell_all.Goals as goal

pub loop-change-preserved : goal.loop-change-preserved
loop-change-preserved c = record {
  subs = c.in_ok-tell_change.ensures.subs ∙ ap (λ (v : Subbed). record v { cursor = c.args.upto }) c.loop-change.invariant.subs;
  notices = told_more notice (told c.args.subs.now.subs) c.loop-change.notices.items c.tell_change.new.notices.items (into_iter_items c.loop-change.change-iterator) (into_iter_items c.next.new.self) c.in-Some.change _
      c.in-Some.ensures.steps.0 (c.in_ok-tell_change.ensures.notices ∙ ap (λ (v : Subbed). c.loop-change.notices.items ++ map notice (told v.subs c.in-Some.change)) c.loop-change.invariant.subs) c.loop-change.invariant.notices;
}
