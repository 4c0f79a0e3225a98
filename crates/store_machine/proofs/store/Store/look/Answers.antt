use Rattle.std.proofs.Common.{arith, ap, ◌∙◌, ◌≡◌, length}
use Rattle.std.proofs.lemmas.Grind.{common_steps}
use Rattle.store_machine.specs.declared.call.StoreCall.TheVariants as call
use Rattle.store_machine.specs.Answers.{answer}
use Rattle.store_machine.proofs.LawfulLemmas.{seen-answer}
use Rattle.store_machine.proofs.store.Store.look.Goals as goal

pub returns-clause-answer : goal.returns-clause-answer
returns-clause-answer c =
    let s = c.self.inside in
    let mark : c.len-mark.result ≡ length s.journal.items = grind (arith, common_steps) in
    seen-answer s.config s.journal.items c.args.items c.in_ok-seen.seen c.len-mark.result mark (c.in_ok-seen.ensures s.journal.items c.self.invariant.holds)
    ∙ ap (λ k. answer k.config k.journal (call.Look c.args.items)) c.self.view_is
