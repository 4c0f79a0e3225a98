use Rattle.std.proofs.Common.{arith, refl, ap, sym, subst, append-nil, ◌∙◌, ◌≡◌, ◌++◌, ◌∷◌, [], None, Some, length, map, w64, to_z, of_z}
use Rattle.std.proofs.lemmas.Grind.{common_steps}
use Rattle.std.proofs.lemmas.Int.{to_z-of_z}
use Rattle.store_machine.specs.declared.call.Reply.TheVariants as replied
use Rattle.store_machine.specs.declared.call.StoreCall.TheVariants as call
use Rattle.store_machine.specs.declared.journal.Act.TheVariants.{Commit}
use Rattle.store_machine.specs.Answers.{answer, entries_of}
use Rattle.store_machine.specs.Clash.{conflict}
use Rattle.store_machine.specs.Counted.{bytes_with}
use Rattle.store_machine.specs.History.{Operate, changes_of}
use Rattle.store_machine.specs.Legal.{IsNext}
use Rattle.store_machine.specs.Kept.{Keeps, Plans}
use Rattle.store_machine.specs.Marking.{Marks}
use Rattle.store_machine.proofs.CommittingLemmas.{commit-done, commit-empty, commit-full, empty-is, granted-whole, some-is}
use Rattle.store_machine.proofs.LawfulLemmas.{keeps-commit, keeps-kept, no_room, with_room}
use Rattle.store_machine.proofs.store.Store.commit_free.Goals as goal

pub add_entry-requires : goal.add_entry-requires
add_entry-requires c = c.self.invariant.marks

pub invariant_of-self : goal.invariant_of-self
invariant_of-self c = keeps-kept _ _ _ _ _ _ _ _ _ _ c.self.invariant c.in_err-add_entry.ensures.kept c.in_err-add_entry.ensures.same refl (subst (Marks c.add_entry.new.alterations) c.in_err-add_entry.ensures.kept c.add_entry.ensures.marks)

pub invariant_of-self-2 : goal.invariant_of-self-2
invariant_of-self-2 c =
    let s = c.self.inside in
    let staged = c.args.staged in
    let plan = c.in_ok-plan.plan in
    let told : Some c.in-Some.bytes ≡ bytes_with s.config.journal (length s.journal.items) s.bytes (Commit staged) = grind (arith, common_steps) in
    let moment : to_z w64 (of_z w64 c.args.at) ≡ c.args.at = to_z-of_z w64 c.args.at c.ranges.at in
    let pushed : c.add_entry.new.journal.items ≡ s.journal.items ++ record { by = c.args.by; nth = c.args.nth; at = c.args.at; act = Commit staged } ∷ [] =
    c.in_ok-add_entry.ensures.journal ∙ (λ j. s.journal.items ++ record { by = c.args.by; nth = c.args.nth; at = moment j; act = Commit staged } ∷ []) in
    let planned : Plans s.contents plan (changes_of s.journal.items ++ map Operate staged.ops) = c.in_ok-plan.ensures (changes_of s.journal.items) c.self.invariant.holds in
    let room = with_room s.config s.journal.items s.bytes c.in-Some.bytes (Commit staged) c.self.invariant.bytes told in
    let free = subst (λ k. conflict staged.touched k.journal ≡ None) (sym c.self.view_is) c.requires.free in
    rw pushed (subst (λ n. Keeps s.config (s.journal.items ++ record { by = c.args.by; nth = c.args.nth; at = c.args.at; act = Commit staged } ∷ []) n c.add_entry.new.contents s.channels c.add_entry.new.alterations) (sym room.1)
    (keeps-commit s.config s.journal.items c.args.by c.args.nth c.args.at s.bytes s.contents c.add_entry.new.contents s.channels s.alterations c.add_entry.new.alterations plan staged c.self.invariant
    (subst (λ k. IsNext k.journal c.args.by c.args.nth) (sym c.self.view_is) c.requires.next) (granted-whole s.config s.journal.items staged free (some-is staged.ops (sym c.is_empty.ensures ∙ c.if-is_empty.false))) room.0 planned
    c.in_ok-add_entry.ensures.contents (subst (Marks c.add_entry.new.alterations) pushed c.add_entry.ensures.marks)))

pub returns-clause-legal : goal.returns-clause-legal
returns-clause-legal c = (invariant_of-self-2 c).legal

-- ---- there are no operations

pub returns-then-is_empty-clause-answer : goal.returns-then-is_empty-clause-answer
returns-then-is_empty-clause-answer c =
    let k = c.args.self.now in
    let mark : c.len-mark.result ≡ length k.journal = grind (arith, common_steps) in
    let none = empty-is c.args.staged.ops (sym c.is_empty.ensures ∙ c.if-is_empty.true) in
    (λ j. record { mark = mark j; reply = replied.Committed }) ∙ (commit-empty k.config k.journal c.args.by c.args.nth c.args.at c.args.staged c.requires.free none).told

pub returns-then-is_empty-clause-journal : goal.returns-then-is_empty-clause-journal
returns-then-is_empty-clause-journal c =
    let k = c.args.self.now in
    let none = empty-is c.args.staged.ops (sym c.is_empty.ensures ∙ c.if-is_empty.true) in
    sym (append-nil k.journal) ∙ ap (λ l. k.journal ++ l) (commit-empty k.config k.journal c.args.by c.args.nth c.args.at c.args.staged c.requires.free none).made

-- ---- there is no room for the entry

pub returns-in_default-clause-answer : goal.returns-in_default-clause-answer
returns-in_default-clause-answer c =
    let s = c.self.inside in
    let staged = c.args.staged in
    let mark : c.len-mark.result ≡ length s.journal.items = grind (arith, common_steps) in
    let told : None ≡ bytes_with s.config.journal (length s.journal.items) s.bytes (Commit staged) = grind (arith, common_steps) in
    let free = subst (λ k. conflict staged.touched k.journal ≡ None) (sym c.self.view_is) c.requires.free in
    let full = commit-full s.config s.journal.items c.args.by c.args.nth c.args.at staged free (some-is staged.ops (sym c.is_empty.ensures ∙ c.if-is_empty.false))
    (no_room s.config s.journal.items s.bytes (Commit staged) c.self.invariant.bytes told) in
    (λ j. record { mark = mark j; reply = replied.JournalFull }) ∙ full.told ∙ ap (λ k. answer k.config k.journal (call.Commit staged)) c.self.view_is

pub returns-in_default-clause-journal : goal.returns-in_default-clause-journal
returns-in_default-clause-journal c =
    let s = c.self.inside in
    let k = c.args.self.now in
    let staged = c.args.staged in
    let told : None ≡ bytes_with s.config.journal (length s.journal.items) s.bytes (Commit staged) = grind (arith, common_steps) in
    let free = subst (λ k'. conflict staged.touched k'.journal ≡ None) (sym c.self.view_is) c.requires.free in
    let full = commit-full s.config s.journal.items c.args.by c.args.nth c.args.at staged free (some-is staged.ops (sym c.is_empty.ensures ∙ c.if-is_empty.false))
    (no_room s.config s.journal.items s.bytes (Commit staged) c.self.invariant.bytes told) in
    sym (append-nil k.journal) ∙ ap (λ l. k.journal ++ l) full.made ∙ ap (λ k'. k.journal ++ entries_of k'.config k'.journal c.args.by c.args.nth c.args.at (call.Commit staged)) c.self.view_is

-- ---- it is done

pub returns-clause-answer : goal.returns-clause-answer
returns-clause-answer c =
    let s = c.self.inside in
    let staged = c.args.staged in
    let mark : c.len-mark.result ≡ length s.journal.items = grind (arith, common_steps) in
    let told : Some c.in-Some.bytes ≡ bytes_with s.config.journal (length s.journal.items) s.bytes (Commit staged) = grind (arith, common_steps) in
    let room = with_room s.config s.journal.items s.bytes c.in-Some.bytes (Commit staged) c.self.invariant.bytes told in
    let free = subst (λ k. conflict staged.touched k.journal ≡ None) (sym c.self.view_is) c.requires.free in
    let done = commit-done s.config s.journal.items c.args.by c.args.nth c.args.at staged free (some-is staged.ops (sym c.is_empty.ensures ∙ c.if-is_empty.false)) room.0 in
    (λ j. record { mark = mark j; reply = replied.Committed }) ∙ done.told ∙ ap (λ k. answer k.config k.journal (call.Commit staged)) c.self.view_is

pub returns-clause-journal : goal.returns-clause-journal
returns-clause-journal c =
    let s = c.self.inside in
    let staged = c.args.staged in
    let told : Some c.in-Some.bytes ≡ bytes_with s.config.journal (length s.journal.items) s.bytes (Commit staged) = grind (arith, common_steps) in
    let moment : to_z w64 (of_z w64 c.args.at) ≡ c.args.at = to_z-of_z w64 c.args.at c.ranges.at in
    let pushed : c.add_entry.new.journal.items ≡ s.journal.items ++ record { by = c.args.by; nth = c.args.nth; at = c.args.at; act = Commit staged } ∷ [] =
    c.in_ok-add_entry.ensures.journal ∙ (λ j. s.journal.items ++ record { by = c.args.by; nth = c.args.nth; at = moment j; act = Commit staged } ∷ []) in
    let room = with_room s.config s.journal.items s.bytes c.in-Some.bytes (Commit staged) c.self.invariant.bytes told in
    let free = subst (λ k. conflict staged.touched k.journal ≡ None) (sym c.self.view_is) c.requires.free in
    let done = commit-done s.config s.journal.items c.args.by c.args.nth c.args.at staged free (some-is staged.ops (sym c.is_empty.ensures ∙ c.if-is_empty.false)) room.0 in
    pushed ∙ ap (λ l. s.journal.items ++ l) done.made ∙ ap (λ k. k.journal ++ entries_of k.config k.journal c.args.by c.args.nth c.args.at (call.Commit staged)) c.self.view_is
