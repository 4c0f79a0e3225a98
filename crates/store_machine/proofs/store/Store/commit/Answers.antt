use Rattle.std.proofs.Common.{arith, ap, sym, append-nil, ◌∙◌, ◌≡◌, ◌++◌, Some, length}
use Rattle.std.proofs.lemmas.Grind.{common_steps}
use Rattle.store_machine.specs.declared.call.Reply.TheVariants as replied
use Rattle.store_machine.specs.Clash.{conflict}
use Rattle.store_machine.proofs.CommittingLemmas.{commit-conflicts}
use Rattle.store_machine.proofs.store.Store.commit.Goals as goal

pub returns-in-Some-clause-answer : goal.returns-in-Some-clause-answer
returns-in-Some-clause-answer c =
    let k = c.args.self.now in
    let mark : c.len-mark.result ≡ length k.journal = grind (arith, common_steps) in
    let found : Some c.in-Some.place ≡ conflict c.args.staged.touched k.journal = sym c.in-Some.is ∙ c.in_ok-conflict.ensures in
    (λ j. record { mark = mark j; reply = replied.Conflict c.in-Some.place }) ∙ (commit-conflicts k.config k.journal c.args.by c.args.nth c.args.at c.args.staged c.in-Some.place found).told

pub returns-in-Some-clause-journal : goal.returns-in-Some-clause-journal
returns-in-Some-clause-journal c =
    let k = c.args.self.now in
    let found : Some c.in-Some.place ≡ conflict c.args.staged.touched k.journal = sym c.in-Some.is ∙ c.in_ok-conflict.ensures in
    sym (append-nil k.journal) ∙ ap (λ l. k.journal ++ l) (commit-conflicts k.config k.journal c.args.by c.args.nth c.args.at c.args.staged c.in-Some.place found).made
