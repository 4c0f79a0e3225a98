use Rattle.std.proofs.Common.{arith, ap, refl, sym, subst, ◌∙◌, ◌≡◌, ◌++◌, ◌∷◌, [], Some, length, if◌then◌else◌, w64, to_z, of_z}
use Rattle.std.proofs.lemmas.Grind.{common_steps}
use Rattle.std.proofs.lemmas.Int.{to_z-of_z}
use Rattle.store_machine.specs.declared.call.StoreCall.TheVariants as call
use Rattle.store_machine.specs.declared.journal.Act.TheVariants.{Enter}
use Rattle.store_machine.specs.Counted.{bytes_with}
use Rattle.store_machine.specs.Answers.{entries_of}
use Rattle.store_machine.specs.Kept.{Keeps}
use Rattle.store_machine.proofs.LawfulLemmas.{keeps-enter, keeps-kept, with_room}
use Rattle.store_machine.proofs.store.Store.enter.Goals as goal

pub invariant_of-self : goal.invariant_of-self
invariant_of-self c = keeps-kept _ _ _ _ _ _ _ _ _ _ c.self.invariant c.in_err-push_entry.ensures.kept (λ key. refl) refl c.self.invariant.marks

pub invariant_of-self-2 : goal.invariant_of-self-2
invariant_of-self-2 c =
    let s = c.self.inside in
    let mark : c.len-mark.result ≡ length s.journal.items = grind (arith, common_steps) in
    let moment : to_z w64 (of_z w64 c.args.at) ≡ c.args.at = to_z-of_z w64 c.args.at c.ranges.at in
    let told : Some c.in-Some.bytes ≡ bytes_with s.config.journal (length s.journal.items) s.bytes Enter = grind (arith, common_steps) in
    let pushed : c.push_entry.new.journal.items ≡ s.journal.items ++ record { by = length s.journal.items; nth = 0; at = c.args.at; act = Enter } ∷ [] =
    c.in_ok-push_entry.ensures.journal ∙ (λ j. s.journal.items ++ record { by = mark j; nth = 0; at = moment j; act = Enter } ∷ []) in
    let room = with_room s.config s.journal.items s.bytes c.in-Some.bytes Enter c.self.invariant.bytes told in
    rw pushed (subst (λ n. Keeps s.config (s.journal.items ++ record { by = length s.journal.items; nth = 0; at = c.args.at; act = Enter } ∷ []) n s.contents s.channels s.alterations) (sym room.1) (keeps-enter s.config s.journal.items s.bytes s.contents s.channels s.alterations c.args.at c.self.invariant room.0))

pub returns-clause-journal : goal.returns-clause-journal
returns-clause-journal c =
    let s = c.self.inside in
    let mark : c.len-mark.result ≡ length s.journal.items = grind (arith, common_steps) in
    let moment : to_z w64 (of_z w64 c.args.at) ≡ c.args.at = to_z-of_z w64 c.args.at c.ranges.at in
    let told : Some c.in-Some.bytes ≡ bytes_with s.config.journal (length s.journal.items) s.bytes Enter = grind (arith, common_steps) in
    let room = with_room s.config s.journal.items s.bytes c.in-Some.bytes Enter c.self.invariant.bytes told in
    c.in_ok-push_entry.ensures.journal ∙ (λ j. s.journal.items ++ record { by = mark j; nth = 0; at = moment j; act = Enter } ∷ [])
    ∙ ap (λ b. s.journal.items ++ (if b then record { by = length s.journal.items; nth = 0; at = c.args.at; act = Enter } ∷ [] else [])) (sym room.0)
    ∙ ap (λ k. k.journal ++ entries_of k.config k.journal 0 0 c.args.at call.Enter) c.self.view_is

pub returns-clause-legal : goal.returns-clause-legal
returns-clause-legal c = (invariant_of-self-2 c).legal
