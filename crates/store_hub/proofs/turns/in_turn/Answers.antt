use Rattle.std.proofs.Common.{◌+◌, ◌-◌, ℕ, ℤ, IfOk, w64, of_z, to_z, refl, sym, subst, arith}
use Rattle.std.proofs.lemmas.Int.{to_z-of_z}
use Rattle.store_machine.specs.declared.call.Answer.{Answer}
use Rattle.turn_book.specs.Words.{view}
use Rattle.turn_book.specs.Hands.{Waits}
use Rattle.store_hub.specs.Words.{Known}
use Rattle.store_hub.specs.Notes.{Answers}
use Rattle.store_hub.specs.Kept.{IsKept}
use Rattle.store_hub.proofs.AskedLemmas.{sees, next_of, turned}
use Rattle.store_hub.proofs.turns.in_turn.Goals as goal

pub ask_as-answer-requires-clause-next : goal.ask_as-answer-requires-clause-next
ask_as-answer-requires-clause-next c =
    let u : Known = view c.args.seat.now in
    let m : Known = view c.look-mark.new.seat in
    let s = sees u m c.args.inside.store.journal c.look-mark.result c.requires.held c.look-mark.ensures.held in
    next_of c.args.number c.args.nth.now u m c.args.inside.store.journal c.look-mark.result c.requires.kept s

pub overflow_sub-nth : goal.overflow_sub-nth
overflow_sub-nth c =
    let u : Known = view c.args.seat.now in
    let m : Known = view c.look-mark.new.seat in
    let s = sees u m c.args.inside.store.journal c.look-mark.result c.requires.held c.look-mark.ensures.held in
    let t = turned c.args.inside.store.config c.args.inside.store.config c.args.number c.args.nth.now (to_z w64 (of_z w64 c.args.at)) c.args.call u m m c.args.inside.store.journal c.ask_as-answer.new.store.journal c.look-mark.result
    c.ask_as-answer.result refl c.requires.kept c.requires.held s c.ask_as-answer.ensures.ok c.ask_as-answer.ensures.err in
    let longer = t.longer in
    omega (arith, longer, c.len-entries.ensures)

pub overflow_add-nth : goal.overflow_add-nth
overflow_add-nth c =
    let u : Known = view c.args.seat.now in
    let m : Known = view c.look-mark.new.seat in
    let s = sees u m c.args.inside.store.journal c.look-mark.result c.requires.held c.look-mark.ensures.held in
    let t = turned c.args.inside.store.config c.args.inside.store.config c.args.number c.args.nth.now (to_z w64 (of_z w64 c.args.at)) c.args.call u m m c.args.inside.store.journal c.ask_as-answer.new.store.journal c.look-mark.result
    c.ask_as-answer.result refl c.requires.kept c.requires.held s c.ask_as-answer.ensures.ok c.ask_as-answer.ensures.err in
    let fits = t.fits in
    omega (arith, fits, c.len-entries.ensures)

pub give-requires-clause-journal : goal.give-requires-clause-journal
give-requires-clause-journal c =
    let u : Known = view c.args.seat.now in
    let m : Known = view c.look-mark.new.seat in
    let s = sees u m c.args.inside.store.journal c.look-mark.result c.requires.held c.look-mark.ensures.held in
    let t = turned c.args.inside.store.config c.args.inside.store.config c.args.number c.args.nth.now (to_z w64 (of_z w64 c.args.at)) c.args.call u m m c.args.inside.store.journal c.ask_as-answer.new.store.journal c.look-mark.result
    c.ask_as-answer.result refl c.requires.kept c.requires.held s c.ask_as-answer.ensures.ok c.ask_as-answer.ensures.err in
    t.gives

pub returns-clause-kept : goal.returns-clause-kept
returns-clause-kept c =
    let u : Known = view c.args.seat.now in
    let m : Known = view c.look-mark.new.seat in
    let w : Known = view c.give.new.seat in
    let s = sees u m c.args.inside.store.journal c.look-mark.result c.requires.held c.look-mark.ensures.held in
    let t = turned c.args.inside.store.config c.args.inside.store.config c.args.number c.args.nth.now (to_z w64 (of_z w64 c.args.at)) c.args.call u m w c.args.inside.store.journal c.ask_as-answer.new.store.journal c.look-mark.result
    c.ask_as-answer.result refl c.requires.kept c.requires.held s c.ask_as-answer.ensures.ok c.ask_as-answer.ensures.err in
    subst (λ (k : ℕ). IsKept c.args.number (c.args.nth.now + (k - c.look-mark.result)) w) (sym c.len-entries.ensures) (t.kept c.give.ensures.same c.give.ensures.entry)

pub returns-clause-ok : goal.returns-clause-ok
returns-clause-ok c =
    let u : Known = view c.args.seat.now in
    let m : Known = view c.look-mark.new.seat in
    let w : Known = view c.give.new.seat in
    let config = c.args.book.now.table.shared.key.value.store.config in
    let s = sees u m c.args.inside.store.journal c.look-mark.result c.requires.held c.look-mark.ensures.held in
    let t = turned c.args.inside.store.config config c.args.number c.args.nth.now (to_z w64 (of_z w64 c.args.at)) c.args.call u m w c.args.inside.store.journal c.ask_as-answer.new.store.journal c.look-mark.result
    c.ask_as-answer.result c.requires.fixed c.requires.kept c.requires.held s c.ask_as-answer.ensures.ok c.ask_as-answer.ensures.err in
    subst (λ (z : ℤ). IfOk c.ask_as-answer.result (λ (a : Answer). (v : Known) → Waits v c.args.inside.store.journal u → Answers config c.args.number c.args.nth.now z c.args.call v a w)) (to_z-of_z w64 c.args.at c.ranges.at)
    (t.ok c.give.ensures.same c.give.ensures.entry)

pub returns-clause-err : goal.returns-clause-err
returns-clause-err c =
    let u : Known = view c.args.seat.now in
    let m : Known = view c.look-mark.new.seat in
    let w : Known = view c.give.new.seat in
    let s = sees u m c.args.inside.store.journal c.look-mark.result c.requires.held c.look-mark.ensures.held in
    let t = turned c.args.inside.store.config c.args.inside.store.config c.args.number c.args.nth.now (to_z w64 (of_z w64 c.args.at)) c.args.call u m w c.args.inside.store.journal c.ask_as-answer.new.store.journal c.look-mark.result
    c.ask_as-answer.result refl c.requires.kept c.requires.held s c.ask_as-answer.ensures.ok c.ask_as-answer.ensures.err in
    t.err c.give.ensures.same c.give.ensures.entry
