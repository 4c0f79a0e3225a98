use Rattle.std.proofs.Common.{◌≡◌, subst, w64, to_z, of_z}
use Rattle.std.proofs.lemmas.Int.{to_z-of_z}
use Rattle.store_machine.specs.History.{set_space}
use Rattle.store_machine.specs.Kept.{Takes}
use Rattle.store_machine.proofs.JudgingLemmas.{takes-noted}
use Rattle.store_machine.proofs.draft.take_put.Goals as goal

pub returns : goal.returns
returns c = λ t sofar h.
    let put = c.args.put in
    let old = c.args.draft.now in
    let new = c.note.new.self in
    let moment : to_z w64 (of_z w64 c.args.at) ≡ c.args.at = to_z-of_z w64 c.args.at c.ranges.at in
    subst (λ a. Takes t sofar c.args.name put (set_space a put) old.verdicts.items new.verdicts.items old.accepted.items new.accepted.items new.plan) moment
    (takes-noted t sofar c.args.name put _ _ _ _ _ _ _ _ (c.in_ok-verdict.ensures t sofar h) c.in_ok-note.ensures.verdicts c.in_ok-note.ensures.accepted c.note.ensures.plan)
