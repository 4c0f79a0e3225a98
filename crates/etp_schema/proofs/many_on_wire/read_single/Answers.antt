use Rattle.std.proofs.Common.{◌≡◌, ◌==◌, false, length, arith}
use Rattle.std.proofs.lemmas.Bool.Decides.{nat_tests}
use Rattle.etp_schema.proofs.ItemLemmas.{single_is}
use Rattle.etp_schema.proofs.many_on_wire.read_single.Goals as goal

pub returns-then-passes : goal.returns-then-passes
returns-then-passes g c =
    let some : length c.args.from.now.rest.now ≡ 0 → ⊥ =
    let test : false ≡ (length c.args.from.now.rest.now == 0) = rw c.rest.ensures at c.if-is_empty.ensures in
    λ h. grind (arith, nat_tests) in
    rw c.if-passes.ensures.left (single_is g.T.Typed.form.at c.args.from.now.left c.passes.new.self.left c.read.new.from.left c.args.from.now.rest.now c.passes.new.self.rest.now c.read.new.from.rest.now c.passes-2.new.self.rest.now c.in-Ok.item some c.if-not-passes.ensures.read c.if-not-passes.ensures.left c.in-Ok.ensures c.if-passes.ensures.read)
