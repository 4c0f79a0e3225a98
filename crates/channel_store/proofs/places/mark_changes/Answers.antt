use Rattle.std.proofs.Common.{◌≡◌, ◌≤◌, ◌-◌, Some, None, length, sym, ◌∙◌, ap, arith}
use Rattle.std.specs.Prelude.{slice_get}
use Rattle.std.specs.Option.{option_copied}
use Rattle.channel_store.proofs.MarkLemmas.{at-or-past, marked-end, marked-first, marked-next, marked-none, marked-stop}
use Rattle.channel_store.proofs.places.mark_changes.Goals as goal

pub loop-number-init : goal.loop-number-init
loop-number-init c = record {
  marks = marked-first c.args.from c.args.first c.max.result c.args.changes.now.items c.count_before-start.result c.args.marks.now c.max.ensures c.count_before-start.ensures.point;
  behind = omega arith;
}

pub returns-in_default : goal.returns-in_default
returns-in_default c =
    let l = c.loop-number in
    let xs = c.args.changes.now.items in
    let none : slice_get xs l.number ≡ None = sym c.get.ensures ∙ ap option_copied c.in_default.is in
    marked-none c.args.from c.args.first xs l.number l.marks none ∙ l.invariant.marks

pub overflow_sub-mark : goal.overflow_sub-mark
overflow_sub-mark c =
    let l = c.loop-number in
    let xs = c.args.changes.now.items in
    let some : slice_get xs l.number ≡ Some c.in-Some.change.now = sym c.get.ensures ∙ ap option_copied c.in-Some.is in
    (at-or-past c.args.from c.args.first c.max.result xs c.count_before-start.result l.number c.in-Some.change.now c.max.ensures c.count_before-start.ensures.point l.invariant.behind some).1

pub returns-then-mark-marks : goal.returns-then-mark-marks
returns-then-mark-marks c =
    let l = c.loop-number in
    let xs = c.args.changes.now.items in
    let x = c.in-Some.change.now in
    let some : slice_get xs l.number ≡ Some x = sym c.get.ensures ∙ ap option_copied c.in-Some.is in
    let reached = at-or-past c.args.from c.args.first c.max.result xs c.count_before-start.result l.number x c.max.ensures c.count_before-start.ensures.point l.invariant.behind some in
    let beyond : length l.marks ≤ x.place - c.args.first = omega arith in
    marked-stop c.args.from c.args.first xs l.number x l.marks c.requires some reached.1 beyond ∙ l.invariant.marks

pub loop-number-preserved : goal.loop-number-preserved
loop-number-preserved c =
    let l = c.loop-number in
    let xs = c.args.changes.now.items in
    let x = c.in-Some.change.now in
    let some : slice_get xs l.number ≡ Some x = sym c.get.ensures ∙ ap option_copied c.in-Some.is in
    let reached = at-or-past c.args.from c.args.first c.max.result xs c.count_before-start.result l.number x c.max.ensures c.count_before-start.ensures.point l.invariant.behind some in
    record {
      marks = marked-next c.args.from c.args.first xs l.number x l.marks some reached.0 reached.1 ∙ l.invariant.marks;
      behind = omega arith;
    }

pub returns : goal.returns
returns c =
    let l = c.loop-number in
    let xs = c.args.changes.now.items in
    let past : length xs ≤ l.number = omega arith in
    marked-end c.args.from c.args.first xs l.number l.marks past ∙ l.invariant.marks
