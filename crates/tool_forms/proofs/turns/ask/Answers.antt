use Rattle.std.proofs.Common.{◌≡◌, ◌++◌, ℕ, ℤ, List, Result, OnOk, w64, of_z, to_z, subst}
use Rattle.std.proofs.lemmas.Int.{to_z-of_z}
use Rattle.server_config.specs.declared.config.Config.{Config}
use Rattle.store_machine.specs.declared.call.StoreCall.{StoreCall}
use Rattle.store_machine.specs.declared.journal.Entry.{Entry}
use Rattle.store_machine.specs.Answers.{added, entries_of}
use Rattle.tool_forms.proofs.turns.ask.Goals as goal

-- the store's own word for the entries behind the name that nothing looks into
asked : {A E : Type 0} (config : Config) (h after : List Entry) (by nth : ℕ) (at : ℤ) (call : StoreCall) (r : Result A E) → OnOk r (after ≡ h ++ entries_of config h by nth at call) → OnOk r (after ≡ h ++ added config h by nth at call)
unfolding added
asked config h after by nth at call r is = is

pub returns-clause-journal : goal.returns-clause-journal
returns-clause-journal c =
    let s = c.args.store.now in
    let after = c.ask.new.self.journal in
    subst (λ (z : ℤ). OnOk c.ask.result (after ≡ s.journal ++ added s.config s.journal c.args.by c.args.nth z c.args.call)) (to_z-of_z w64 c.args.at c.ranges.at)
    (asked s.config s.journal after c.args.by c.args.nth (to_z w64 (of_z w64 c.args.at)) c.args.call c.ask.result c.ask.ensures.journal)
