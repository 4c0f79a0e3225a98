use Rattle.std.proofs.Common.{arith, sym, subst, ap, ◌∙◌, ◌≡◌, ◌≤◌, [], drop}
use Rattle.std.proofs.lemmas.Grind.{common_steps}
use Rattle.store_machine.specs.declared.call.Reply.TheVariants as replied
use Rattle.store_machine.specs.declared.reads.Room.{Room}
use Rattle.store_machine.specs.Reads.{behind, ranged, whole_room}
use Rattle.store_machine.proofs.ReadingLemmas.{nothing-behind, ranges-done}
use Rattle.store_machine.proofs.reads.ranges.Goals as goal

pub loop-ask-init : goal.loop-ask-init
loop-ask-init c =
    let none : c.new-items.result.items ≡ [] = grind (arith, common_steps) in
    let whole : whole_room.bytes ≤ 67108864 = omega arith in
    record {
      joins = (λ j. behind (none j) (ranged c.args.channels.now (c.whole-room.ensures j) (c.as_slice-ask-items.ensures j))) ∙ nothing-behind (ranged c.args.channels.now whole_room c.args.asks.now);
      within = subst (λ (r : Room). r.bytes ≤ 67108864) (sym c.whole-room.ensures) whole;
    }

pub returns : goal.returns
returns c =
    let none : drop c.loop-ask.ask-index c.as_slice-ask-items.result.now ≡ [] = grind (arith, common_steps) in
    ap replied.Points c.from_vec.ensures
    ∙ ranges-done c.loop-ask.items.items (ranged c.args.channels.now whole_room c.args.asks.now) (ap (λ l. behind c.loop-ask.items.items (ranged c.args.channels.now c.loop-ask.room l)) (sym none) ∙ c.loop-ask.invariant.joins)
