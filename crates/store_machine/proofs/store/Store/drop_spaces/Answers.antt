use Rattle.std.proofs.Common.{arith, refl, ap, sym, subst, ◌∙◌, ◌≡◌, ◌++◌, ◌∷◌, nat_cmp, [], Some, length, map}
use Rattle.std.proofs.lemmas.Grind.{common_steps}
use Rattle.std.specs.Cmp.Lexicographic.{slice_cmp}
use Rattle.std.specs.List.Sorted.{IsStrictlySortedBy}
use Rattle.std.specs.Map.{keys_of, values_of}
use Rattle.store_machine.specs.declared.journal.Act.TheVariants.{DropSpaces}
use Rattle.store_machine.specs.History.{DropSpace, changes_of}
use Rattle.store_machine.specs.Counted.{bytes_with}
use Rattle.store_machine.specs.Answers.{verdicts, accepted}
use Rattle.store_machine.specs.Legal.{IsNext}
use Rattle.store_machine.specs.Kept.{Keeps, Plans}
use Rattle.store_machine.specs.Marking.{Marks}
use Rattle.store_machine.proofs.JudgingLemmas.{names-verdicts}
use Rattle.store_machine.proofs.LawfulLemmas.{keeps-drops, keeps-kept, with_room}
use Rattle.store_machine.proofs.store.Store.drop_spaces.Goals as goal

pub from_sorted-verdicts-requires : goal.from_sorted-verdicts-requires
from_sorted-verdicts-requires c =
    let cs = changes_of c.self.inside.journal.items in
    let given : c.in_ok-draft.draft.verdicts.items ≡ verdicts DropSpace cs c.args.items =
    c.in_ok-draft.ensures.verdicts cs c.self.invariant.holds ∙ ap (verdicts DropSpace cs) c.into_vec.ensures.items in
    subst (IsStrictlySortedBy (slice_cmp nat_cmp)) (sym (ap keys_of given ∙ names-verdicts DropSpace cs c.args.items)) c.into_vec.ensures.sorted

pub add_entry-requires : goal.add_entry-requires
add_entry-requires c = c.self.invariant.marks

pub invariant_of-self : goal.invariant_of-self
invariant_of-self c = keeps-kept _ _ _ _ _ _ _ _ _ _ c.self.invariant c.in_err-add_entry.ensures.kept c.in_err-add_entry.ensures.same refl (subst (Marks c.add_entry.new.alterations) c.in_err-add_entry.ensures.kept c.add_entry.ensures.marks)

pub invariant_of-self-2 : goal.invariant_of-self-2
invariant_of-self-2 c =
    let s = c.self.inside in
    let cs = changes_of s.journal.items in
    let items = c.in_ok-draft.draft.accepted.items in
    let plan = c.in_ok-draft.draft.plan in
    let told : Some c.in-Some.bytes ≡ bytes_with s.config.journal (length s.journal.items) s.bytes (DropSpaces items) = grind (arith, common_steps) in
    let pushed : c.add_entry.new.journal.items ≡ s.journal.items ++ record { by = c.args.by; nth = c.args.nth; at = c.args.at; act = DropSpaces items } ∷ [] = grind (arith, common_steps) in
    let drafted : items ≡ accepted DropSpace cs (values_of c.args.items) =
    c.in_ok-draft.ensures.accepted cs c.self.invariant.holds ∙ ap (λ l. accepted DropSpace cs (values_of l)) c.into_vec.ensures.items in
    let planned : Plans s.contents plan (cs ++ map DropSpace items) = c.in_ok-draft.ensures.plan cs c.self.invariant.holds in
    let room = with_room s.config s.journal.items s.bytes c.in-Some.bytes (DropSpaces items) c.self.invariant.bytes told in
    rw pushed (subst (λ n. Keeps s.config (s.journal.items ++ record { by = c.args.by; nth = c.args.nth; at = c.args.at; act = DropSpaces items } ∷ []) n c.add_entry.new.contents s.channels c.add_entry.new.alterations) (sym room.1)
    (keeps-drops s.config s.journal.items c.args.by c.args.nth c.args.at s.bytes s.contents c.add_entry.new.contents s.channels s.alterations c.add_entry.new.alterations plan (values_of c.args.items) items c.self.invariant
    (subst (λ k. IsNext k.journal c.args.by c.args.nth) (sym c.self.view_is) c.requires) drafted planned (grind (arith, common_steps)) room.0 c.in_ok-add_entry.ensures.contents (subst (Marks c.add_entry.new.alterations) pushed c.add_entry.ensures.marks)))

pub returns-clause-legal : goal.returns-clause-legal
returns-clause-legal c = (invariant_of-self-2 c).legal
