use Rattle.std.proofs.Common.{◌≡◌}
use Rattle.etp_schema.proofs.PairLemmas.{ordered_is}
use Rattle.etp_schema.proofs.many_on_wire.read_at_once.Goals as goal

pub returns : goal.returns
returns g c =
    let read = rw c.new-pairs.ensures.items at c.in-Ok.ensures in
    ordered_is g.T.Typed.form.at c.args.from.now.left _ c.args.from.now.rest.now _ _ c.in-Some.named read c.in-Some.ensures.moved c.in-Some.ensures.sorted
