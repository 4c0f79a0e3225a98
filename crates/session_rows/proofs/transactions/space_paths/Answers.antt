use Rattle.std.proofs.Common.{◌∙◌, ap, sym}
use Rattle.std.specs.Vec.Iter.{into_iter_items}
use Rattle.session_rows.specs.Spaces.{space_path}
use Rattle.session_rows.proofs.PathLemmas.{paths_more}
use Rattle.session_rows.proofs.transactions.space_paths.Goals as goal

pub loop-text-preserved : goal.loop-text-preserved
loop-text-preserved c =
    paths_more c.in-Some.text (into_iter_items c.loop-text.text-iterator) (into_iter_items c.next.new.self)
    c.loop-text.paths.items c.push.new.self.items c.in-Granted.path _ c.in-Some.ensures.steps.0
    (ap space_path (sym c.as_str.ensures) ∙ sym c.in_ok-decision.ensures ∙ c.in-Granted.is) c.in_ok-push-in-Granted.ensures.items c.loop-text.invariant
