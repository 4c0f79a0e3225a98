use Rattle.std.proofs.Common.{arith, ap, ◌∙◌, ◌≡◌, length}
use Rattle.std.proofs.lemmas.Grind.{common_steps}
use Rattle.store_machine.specs.declared.call.StoreCall.TheVariants as call
use Rattle.store_machine.specs.History.{changes_of}
use Rattle.store_machine.specs.Answers.{answer}
use Rattle.store_machine.proofs.LawfulLemmas.{listed-answer}
use Rattle.store_machine.proofs.store.Store.list_spaces.Goals as goal

pub returns-clause-answer : goal.returns-clause-answer
returns-clause-answer c =
    let s = c.self.inside in
    let mark : c.len-mark.result ≡ length s.journal.items = grind (arith, common_steps) in
    listed-answer s.config s.journal.items c.in_ok-dataspaces.dataspaces c.args.newer c.len-mark.result mark (c.in_ok-dataspaces.ensures (changes_of s.journal.items) c.self.invariant.holds)
    ∙ ap (λ k. answer k.config k.journal (call.Spaces c.args.newer)) c.self.view_is
