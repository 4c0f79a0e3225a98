use Rattle.std.proofs.Common.{rules, sym, subst, ◌≡◌, ◌++◌, OnOk, FitsSigned, w64, to_z, of_z}
use Rattle.std.proofs.lemmas.Int.{to_z-of_z}
use Rattle.store_machine.specs.declared.call.StoreCall.TheVariants as call
use Rattle.store_machine.specs.Answers.{entries_of}
use Rattle.store_machine.proofs.store.Store.ask.Goals as goal

pub returns-in-Replace-clause-journal : goal.returns-in-Replace-clause-journal
returns-in-Replace-clause-journal c =
    let k = c.args.self.now in
    let r = c.in-Replace in
    let from_fits : FitsSigned w64 r.from = search rules in
    let to_fits : FitsSigned w64 r.to = search rules in
    let at : to_z w64 (of_z w64 c.args.at) ≡ c.args.at = to_z-of_z w64 c.args.at c.ranges.at in
    let from : to_z w64 (of_z w64 r.from) ≡ r.from = to_z-of_z w64 r.from from_fits in
    let to : to_z w64 (of_z w64 r.to) ≡ r.to = to_z-of_z w64 r.to to_fits in
    let done = subst (λ X. X)
    (λ j. OnOk c.load-in-Replace.result (c.load-in-Replace.new.self.journal ≡ k.journal ++ entries_of k.config k.journal c.args.by c.args.nth (at j) (call.Replace r.channels (from j) (to j) r.items)))
    c.load-in-Replace.ensures.journal in
    subst (λ a. OnOk c.load-in-Replace.result (c.load-in-Replace.new.self.journal ≡ k.journal ++ entries_of k.config k.journal c.args.by c.args.nth c.args.at a)) (sym r.is) done
