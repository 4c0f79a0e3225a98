use Rattle.std.specs.Vec.Iter.{into_iter_items}
use Rattle.session_core.proofs.NotingLemmas.{found_more, note_more}
use Rattle.session_core.proofs.noting.note_all.Goals as goal

pub loop-key-preserved : goal.loop-key-preserved
loop-key-preserved c =
    let items = into_iter_items c.loop-key.key-iterator in
    let rest = into_iter_items c.next.new.self in
    record {
      found = found_more c.args.mark c.loop-key.stage c.note.new.stage c.in-Some.key items rest c.loop-key.noted.items c.move_found.new.noted.items
          c.loop-key.left.items c.move_found.new.left.items c.in_ok-refusal.refusal _ c.in-Some.ensures.steps.0 c.in_ok-refusal.ensures.refusal
          c.in_ok-refusal.ensures.stage c.in_ok-move_found.ensures.noted c.in_ok-move_found.ensures.left c.loop-key.invariant.found;
      stage = note_more c.args.mark c.loop-key.stage c.note.new.stage c.in-Some.key items rest _ c.in-Some.ensures.steps.0 c.in_ok-refusal.ensures.stage c.loop-key.invariant.stage;
    }
