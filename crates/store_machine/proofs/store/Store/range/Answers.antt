use Rattle.std.proofs.Common.{arith, ap, ◌∙◌, ◌≡◌, length}
use Rattle.std.proofs.lemmas.Grind.{common_steps}
use Rattle.store_machine.specs.declared.call.StoreCall.TheVariants as call
use Rattle.store_machine.specs.Answers.{answer}
use Rattle.store_machine.proofs.ReadingLemmas.{ranges-answer}
use Rattle.store_machine.proofs.store.Store.range.Goals as goal

pub returns-clause-answer : goal.returns-clause-answer
returns-clause-answer c =
    let s = c.self.inside in
    let mark : c.len-mark.result ≡ length s.journal.items = grind (arith, common_steps) in
    ranges-answer s.config s.journal.items s.channels c.args.items c.in_ok-reply.reply c.len-mark.result mark c.self.invariant.channels c.in_ok-reply.ensures
    ∙ ap (λ k. answer k.config k.journal (call.Range c.args.items)) c.self.view_is
