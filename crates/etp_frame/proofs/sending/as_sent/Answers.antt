use Rattle.std.proofs.Common.{◌∙◌, ◌++◌, sym, ap}
use Rattle.std.specs.Vec.Iter.{into_iter_items}
use Rattle.etp_frame.specs.Joining.{Objects}
use Rattle.etp_frame.specs.Chunking.{as_sent}
use Rattle.etp_frame.proofs.sending.as_sent.Goals as goal

pub loop-object-preserved : goal.loop-object-preserved
loop-object-preserved c =
    let old = c.loop-object.sending in
    c.in_ok-sending.ensures (into_iter_items c.next.new.self)
    ∙ ap (λ (l : Objects). old.sent.items ++ as_sent c.args.limit c.args.number old.count l) (sym c.in-Some.ensures.steps.0)
    ∙ c.loop-object.invariant
