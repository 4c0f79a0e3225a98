use Rattle.std.proofs.Common.{◌≡◌, Option, List, true, fold, sym, ap, subst, ◌∙◌, take, arith}
use Rattle.std.specs.Prelude.{is_some, IfSome}
use Rattle.array_store.specs.declared.op.ArrayOp.{ArrayOp}
use Rattle.array_store.specs.declared.record.ArrayRecord.{ArrayRecord}
use Rattle.array_store.specs.Operations.{array_after}
use Rattle.array_store.specs.Table.{array_in}
use Rattle.tx_stage.specs.Patching.{SetsLater}
use Rattle.tx_stage.specs.Standing.{array_stands}
use Rattle.tx_stage.proofs.PatchLemmas.{later-inside, sets-over}
use Rattle.tx_stage.proofs.StandingLemmas.{array-stood, copied-some}
use Rattle.tx_stage.proofs.contents.Contents.place_to_patch.Goals as goal

pub before-requires : goal.before-requires
before-requires c =
    let ops = c.as_slice-ops.result.now in
    let key = c.args.key.now in
    let is : SetsLater key ops c.in-Some.place = subst (λ r. IfSome r (λ place. SetsLater key ops place)) c.in-Some.is c.place_of_set.ensures in
    let inside = later-inside key ops c.in-Some.place is in
    omega (arith, inside)

pub returns : goal.returns
returns c =
    let ops = c.as_slice-ops.result.now in
    let items = c.args.plan.now.arrays.items in
    let key = c.args.key.now in
    let place = c.in-Some.place in
    let found = array_in c.args.self.now.arrays key in
    let same : ops ≡ items = c.as_slice-ops.ensures.value in
    let is : SetsLater key ops place = subst (λ r. IfSome r (λ place. SetsLater key ops place)) c.in-Some.is c.place_of_set.ensures in
    let front : c.before-2.result.now ≡ take place items = c.before-2.ensures ∙ ap (λ (os : List ArrayOp). take place os) same in
    let stood : c.is_some-stood.result ≡ is_some found = c.is_some-stood.ensures ∙ copied-some c.get.result ∙ ap (λ (o : Option ArrayRecord). is_some o) c.get.ensures in
    let told : c.array_after.result ≡ fold (array_stands key) (is_some found) (take place items) = c.array_after.ensures ∙ (λ j. fold (array_stands key) (stood j) (front j)) in
    let stands : is_some (fold (array_after key) found (take place items)) ≡ true = sym (array-stood key (take place items) found) ∙ sym told ∙ c.if-not-array_after.false in
    sets-over key found items place (subst (λ os. SetsLater key os place) same is) stands
