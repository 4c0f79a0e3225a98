use Rattle.std.proofs.Common.{refl, ◌∙◌, ◌<◌, ◌≤◌, ◌-◌, false, subst, arith}
use Rattle.store_machine.specs.Telling.{Takes, due_at, dues_at}
use Rattle.store_machine.proofs.LagLemmas.{looks_none, mark_is, marks_length}
use Rattle.store_machine.proofs.TakingLemmas.{bytes_first, dues_end, dues_step, takes_end, takes_first, takes_next, takes_stop}
use Rattle.store_machine.proofs.news.take_from.Goals as goal

pub loop-from-init : goal.loop-from-init
loop-from-init c =
    let a = c.args in
    record {
      takes = takes_first (dues_at a.channels.now a.followed.now a.place (a.mark - a.place)) a.place a.taken.now.changes.items c.requires.none;
      begun = omega arith;
      looks = looks_none a.channels.now a.followed.now a.place _ refl refl c.new.ensures.items;
      within = c.requires.within;
      bytes = bytes_first a.taken.now.changes.items a.taken.now.bytes c.requires.none c.requires.bytes;
    }

pub index-marked-requires : goal.index-marked-requires
index-marked-requires c =
    let a = c.args in
    let w = c.look_on.new.window in
    let looks = c.in_ok-look_on.ensures.looks in
    let long = marks_length a.channels.now a.followed.now w.first (w.end - w.first) w.marks.items looks.marks in
    let size = w.marks.ok.0 in
    omega (arith, size, long, c.in_ok-look_on.ensures.begun, c.in_ok-look_on.ensures.within)

pub take_marked-requires-clause-marked : goal.take_marked-requires-clause-marked
take_marked-requires-clause-marked c =
    let a = c.args in
    let w = c.look_on.new.window in
    c.index-marked.ensures
    ∙ mark_is a.channels.now a.followed.now w.first c.loop-from.from w.end w.marks.items c.index-marked.result.now c.in_ok-look_on.ensures.looks.marks c.in_ok-look_on.ensures.begun c.in_ok-look_on.ensures.within

pub returns-then-not-took-clause-upto : goal.returns-then-not-took-clause-upto
returns-then-not-took-clause-upto c =
    let a = c.args in
    let l = c.loop-from in
    let within : l.from < a.mark = omega arith in
    let takes = subst (λ b. Takes b (due_at a.channels.now a.followed.now l.from) l.taken.changes.items c.take_marked.new.taken.changes.items) c.if-not-took.true c.in_ok-took.ensures.takes in
    (takes_stop (dues_at a.channels.now a.followed.now a.place (a.mark - a.place)) a.place l.from l.taken.changes.items _ _ _ _ l.invariant.takes (dues_step a.channels.now a.followed.now l.from a.mark within) takes).0

pub returns-then-not-took-clause-changes : goal.returns-then-not-took-clause-changes
returns-then-not-took-clause-changes c =
    let a = c.args in
    let l = c.loop-from in
    let within : l.from < a.mark = omega arith in
    let takes = subst (λ b. Takes b (due_at a.channels.now a.followed.now l.from) l.taken.changes.items c.take_marked.new.taken.changes.items) c.if-not-took.true c.in_ok-took.ensures.takes in
    (takes_stop (dues_at a.channels.now a.followed.now a.place (a.mark - a.place)) a.place l.from l.taken.changes.items _ _ _ _ l.invariant.takes (dues_step a.channels.now a.followed.now l.from a.mark within) takes).1

pub loop-from-preserved : goal.loop-from-preserved
loop-from-preserved c =
    let a = c.args in
    let l = c.loop-from in
    let within : l.from < a.mark = omega arith in
    let takes = subst (λ b. Takes b (due_at a.channels.now a.followed.now l.from) l.taken.changes.items c.take_marked.new.taken.changes.items) c.if-not-took.false c.in_ok-took.ensures.takes in
    record {
      takes = takes_next (dues_at a.channels.now a.followed.now a.place (a.mark - a.place)) a.place l.from l.taken.changes.items _ _ _ _ l.invariant.takes (dues_step a.channels.now a.followed.now l.from a.mark within) takes;
      begun = omega (arith, c.in_ok-look_on.ensures.begun);
      looks = c.in_ok-look_on.ensures.looks;
      within = omega arith;
      bytes = c.in_ok-took.ensures.bytes;
    }

pub returns-clause-upto : goal.returns-clause-upto
returns-clause-upto c =
    let a = c.args in
    let l = c.loop-from in
    let past : a.mark ≤ l.from = omega arith in
    (takes_end (dues_at a.channels.now a.followed.now a.place (a.mark - a.place)) a.place l.from l.taken.changes.items _ l.invariant.takes (dues_end a.channels.now a.followed.now l.from a.mark past)).0

pub returns-clause-changes : goal.returns-clause-changes
returns-clause-changes c =
    let a = c.args in
    let l = c.loop-from in
    let past : a.mark ≤ l.from = omega arith in
    (takes_end (dues_at a.channels.now a.followed.now a.place (a.mark - a.place)) a.place l.from l.taken.changes.items _ l.invariant.takes (dues_end a.channels.now a.followed.now l.from a.mark past)).1
