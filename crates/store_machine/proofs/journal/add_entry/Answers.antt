use Rattle.std.proofs.Common.{arith, sym, subst, ◌≡◌, ◌≤◌, ◌++◌, ◌∷◌, [], length}
use Rattle.std.proofs.lemmas.Grind.{common_steps}
use Rattle.store_machine.specs.Marking.{Marks}
use Rattle.store_machine.proofs.journal.add_entry.Goals as goal

-- ---- what noting requires

pub note-requires-clause-own_later : goal.note-requires-clause-own_later
note-requires-clause-own_later c =
    let journal = c.args.journal.now.items in
    let place : c.len.result ≡ length journal = grind (arith, common_steps) in
    subst (λ n. c.make_room.new.alterations.own.past ≤ n) (sym place) (c.make_room.ensures.marks journal c.requires).own_past

pub note-requires-clause-whole_later : goal.note-requires-clause-whole_later
note-requires-clause-whole_later c =
    let journal = c.args.journal.now.items in
    let place : c.len.result ≡ length journal = grind (arith, common_steps) in
    subst (λ n. c.make_room.new.alterations.whole.past ≤ n) (sym place) (c.make_room.ensures.marks journal c.requires).whole_past

-- ---- the index has the keys of the journal, with the entry or without it

pub returns-in_err-altered-clause-marks : goal.returns-in_err-altered-clause-marks
returns-in_err-altered-clause-marks c = subst (Marks c.make_room.new.alterations) (sym c.make_room.ensures.journal) (c.make_room.ensures.marks c.args.journal.now.items c.requires)

pub returns-clause-marks : goal.returns-clause-marks
returns-clause-marks c =
    let journal = c.args.journal.now.items in
    let e = c.args.entry in
    let place : c.len.result ≡ length journal = grind (arith, common_steps) in
    let pushed : c.push.new.self.items ≡ journal ++ e ∷ [] = grind (arith, common_steps) in
    subst (Marks c.note.new.self) (sym pushed) (c.note.ensures journal e (c.make_room.ensures.marks journal c.requires) place (c.in_ok-altered.ensures.altered e.at))
