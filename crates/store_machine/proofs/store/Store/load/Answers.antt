use Rattle.std.proofs.Common.{arith, true, false, ap, sym, subst, append-nil, ◌∙◌, ◌≡◌, ◌++◌, ◌+◌, length, w64, to_z, of_z}
use Rattle.std.proofs.lemmas.Grind.{common_steps}
use Rattle.std.proofs.lemmas.Int.{to_z-of_z}
use Rattle.store_machine.specs.Answers.{has_room_for}
use Rattle.store_machine.specs.Counted.{counted, counted_act}
use Rattle.store_machine.specs.Legal.{Legal}
use Rattle.store_machine.specs.Loads.{adds_entry, load_act, unless_refused}
use Rattle.store_machine.proofs.LawfulLemmas.{no_room_found, room_found}
use Rattle.store_machine.proofs.LoadingLemmas.{added-is, load-ended, load-full, load-legal, load-none}
use Rattle.store_machine.proofs.store.Store.load.Goals as goal

-- ---- what do_load requires: there is room, and what the entries count then

pub do_load-requires-clause-adds : goal.do_load-requires-clause-adds
do_load-requires-clause-adds c = sym c.adds_entry.ensures ∙ c.if-not-adds_entry.false

pub do_load-requires-clause-room : goal.do_load-requires-clause-room
do_load-requires-clause-room c =
    let s = c.self.inside in
    let mark : c.len-mark.result ≡ length s.journal.items = grind (arith, common_steps) in
    subst (λ k. has_room_for k.config k.journal (load_act c.args.load) ≡ true) c.self.view_is
    (room_found s.config s.journal.items s.bytes c.in-Some.bytes c.bytes.result c.len-mark.result (load_act c.args.load) c.self.invariant.bytes mark c.bytes.ensures c.in-Some.ensures).0

pub do_load-requires-clause-bytes : goal.do_load-requires-clause-bytes
do_load-requires-clause-bytes c =
    let s = c.self.inside in
    let a = load_act c.args.load in
    let mark : c.len-mark.result ≡ length s.journal.items = grind (arith, common_steps) in
    (room_found s.config s.journal.items s.bytes c.in-Some.bytes c.bytes.result c.len-mark.result (load_act c.args.load) c.self.invariant.bytes mark c.bytes.ensures c.in-Some.ensures).1
    ∙ ap (λ n. n + counted_act a) c.self.invariant.bytes ∙ ap (λ k. counted k.journal + counted_act a) c.self.view_is

-- ---- no entry is made

pub returns-then-not-adds_entry-clause-answer : goal.returns-then-not-adds_entry-clause-answer
returns-then-not-adds_entry-clause-answer c =
    let k = c.args.self.now in
    let mark : c.len-mark.result ≡ length k.journal = grind (arith, common_steps) in
    let none : adds_entry c.args.load ≡ false = sym c.adds_entry.ensures ∙ c.if-not-adds_entry.true in
    (λ j. record { mark = mark j; reply = c.written.ensures j })
    ∙ (load-none k.config k.journal c.args.by c.args.nth c.args.at c.args.load c.in_ok-refusal.refusal none c.in_ok-refusal.ensures.code).told

-- ---- there is no room for it

pub returns-in_default-clause-answer : goal.returns-in_default-clause-answer
returns-in_default-clause-answer c =
    let s = c.self.inside in
    let k = c.args.self.now in
    let mark : c.len-mark.result ≡ length s.journal.items = grind (arith, common_steps) in
    let place : c.len-mark.result ≡ length k.journal = grind (arith, common_steps) in
    let adds : adds_entry c.args.load ≡ true = sym c.adds_entry.ensures ∙ c.if-not-adds_entry.false in
    let full = subst (λ k'. has_room_for k'.config k'.journal (load_act c.args.load) ≡ false) c.self.view_is
    (no_room_found s.config s.journal.items s.bytes c.bytes.result c.len-mark.result (load_act c.args.load) c.self.invariant.bytes mark c.bytes.ensures c.in_default.ensures) in
    (λ j. record { mark = place j; reply = c.without_room.ensures j })
    ∙ (load-full k.config k.journal c.args.by c.args.nth c.args.at c.args.load c.in_ok-refusal-2.refusal adds c.in_ok-refusal-2.ensures.code full).told

pub returns-in_default-clause-journal : goal.returns-in_default-clause-journal
returns-in_default-clause-journal c =
    let s = c.self.inside in
    let k = c.args.self.now in
    let mark : c.len-mark.result ≡ length s.journal.items = grind (arith, common_steps) in
    let adds : adds_entry c.args.load ≡ true = sym c.adds_entry.ensures ∙ c.if-not-adds_entry.false in
    let full = subst (λ k'. has_room_for k'.config k'.journal (load_act c.args.load) ≡ false) c.self.view_is
    (no_room_found s.config s.journal.items s.bytes c.bytes.result c.len-mark.result (load_act c.args.load) c.self.invariant.bytes mark c.bytes.ensures c.in_default.ensures) in
    ap (λ k'. k'.journal) c.load_refusal-in_default.ensures.same ∙ sym (append-nil k.journal)
    ∙ ap (λ l. k.journal ++ l) (load-full k.config k.journal c.args.by c.args.nth c.args.at c.args.load c.in_ok-refusal-2.refusal adds c.in_ok-refusal-2.ensures.code full).made

-- ---- it is done, or refused

pub returns-clause-answer : goal.returns-clause-answer
returns-clause-answer c =
    let s = c.self.inside in
    let k = c.args.self.now in
    let mark : c.len-mark.result ≡ length s.journal.items = grind (arith, common_steps) in
    let place : c.len-mark.result ≡ length k.journal = grind (arith, common_steps) in
    let adds : adds_entry c.args.load ≡ true = sym c.adds_entry.ensures ∙ c.if-not-adds_entry.false in
    let room = subst (λ k'. has_room_for k'.config k'.journal (load_act c.args.load) ≡ true) c.self.view_is
    (room_found s.config s.journal.items s.bytes c.in-Some.bytes c.bytes.result c.len-mark.result (load_act c.args.load) c.self.invariant.bytes mark c.bytes.ensures c.in-Some.ensures).0 in
    (λ j. record { mark = place j; reply = c.written-2.ensures j })
    ∙ (load-ended k.config k.journal c.args.by c.args.nth c.args.at c.args.load c.in_ok-refusal-3.refusal adds room c.in_ok-refusal-3.ensures.code).told

pub returns-clause-journal : goal.returns-clause-journal
returns-clause-journal c =
    let s = c.self.inside in
    let k = c.args.self.now in
    let r = c.in_ok-refusal-3.refusal in
    let mark : c.len-mark.result ≡ length s.journal.items = grind (arith, common_steps) in
    let moment : to_z w64 (of_z w64 c.args.at) ≡ c.args.at = to_z-of_z w64 c.args.at c.ranges.at in
    let adds : adds_entry c.args.load ≡ true = sym c.adds_entry.ensures ∙ c.if-not-adds_entry.false in
    let room = subst (λ k'. has_room_for k'.config k'.journal (load_act c.args.load) ≡ true) c.self.view_is
    (room_found s.config s.journal.items s.bytes c.in-Some.bytes c.bytes.result c.len-mark.result (load_act c.args.load) c.self.invariant.bytes mark c.bytes.ensures c.in-Some.ensures).0 in
    c.in_ok-refusal-3.ensures.journal ∙ (λ j. unless_refused r k.journal (record { by = c.args.by; nth = c.args.nth; at = moment j; act = load_act c.args.load }))
    ∙ added-is r k.journal (record { by = c.args.by; nth = c.args.nth; at = c.args.at; act = load_act c.args.load })
    ∙ ap (λ l. k.journal ++ l) (load-ended k.config k.journal c.args.by c.args.nth c.args.at c.args.load r adds room c.in_ok-refusal-3.ensures.code).made

pub returns-clause-legal : goal.returns-clause-legal
returns-clause-legal c =
    let k = c.args.self.now in
    let legal = subst (λ k'. Legal k'.config k'.journal) c.self.view_is c.self.invariant.legal in
    let grown = load-legal k.config k.journal c.args.by c.args.nth c.args.at c.args.load legal c.requires in
    subst (λ config. Legal config c.do_load.new.self.journal) (sym c.in_ok-refusal-3.ensures.config) (subst (Legal k.config) (sym (returns-clause-journal c)) grown)
