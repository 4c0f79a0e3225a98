use Rattle.std.proofs.Common.{◌≡◌, ◌≤◌, ◌<◌, ◌+◌, ◌-◌, ◌/◌, true, false, length, sym, ◌∙◌, arith}
use Rattle.std.specs.Prelude.{slice_get}
use Rattle.channel_store.specs.Told.{stands_before}
use Rattle.channel_store.proofs.ChangeLemmas.{before-middle, behind-middle}
use Rattle.channel_store.proofs.places.count_before.Goals as goal

pub loop-low-preserved-then-stands_before : goal.loop-low-preserved-then-stands_before
loop-low-preserved-then-stands_before c =
    let xs = c.args.changes.now.items in
    let middle = c.loop-low.low + (c.loop-low.high - c.loop-low.low) / 2 in
    let within : c.loop-low.high ≤ length xs = c.loop-low.invariant.within in
    let below : middle < c.loop-low.high = omega arith in
    let stands : stands_before c.args.place (slice_get xs middle) ≡ true = sym c.stands_before.ensures ∙ c.if-stands_before.true in
    record {
      before = before-middle c.args.place xs middle c.requires (omega arith) stands;
      behind = c.loop-low.invariant.behind;
      ordered = omega arith;
      within = within;
    }

pub loop-low-preserved : goal.loop-low-preserved
loop-low-preserved c =
    let xs = c.args.changes.now.items in
    let middle = c.loop-low.low + (c.loop-low.high - c.loop-low.low) / 2 in
    let within : c.loop-low.high ≤ length xs = c.loop-low.invariant.within in
    let below : middle < c.loop-low.high = omega arith in
    let stands : stands_before c.args.place (slice_get xs middle) ≡ false = sym c.stands_before.ensures ∙ c.if-stands_before.false in
    record {
      before = c.loop-low.invariant.before;
      behind = behind-middle c.args.place xs middle c.requires stands;
      ordered = omega arith;
      within = omega arith;
    }
