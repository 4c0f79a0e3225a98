use Rattle.std.proofs.Common.{rules, ◌≡◌, ◌∷◌, [], length, sym, ap, subst, ◌∙◌, w64, to_z, of_z}
use Rattle.std.specs.Vec.Iter.{into_iter_items}
use Rattle.std.proofs.lemmas.Int.{to_z-of_z}
use Rattle.std.proofs.lemmas.List.{nil_from_length}
use Rattle.channel_store.specs.Rows.{done}
use Rattle.channel_store.specs.Sweeps.{all_done, ids_ready, modify_at, row_at, AreReady, IsNextIn}
use Rattle.channel_store.proofs.RowLemmas.{done-first, done-none, ready-after}
use Rattle.channel_store.proofs.rows.commit_channels.Goals as goal

pub loop-ready-init : goal.loop-ready-init
loop-ready-init c =
    let all : into_iter_items c.into_iter-ready-iterator.result ≡ c.args.readies.items = search rules in
    let at = to_z w64 (of_z w64 c.args.at) in
    record {
      done = ap (λ q. all_done c.args.place at (ids_ready q) c.args.tracks.now.items) all;
      due = c.requires.due;
      ready = subst (AreReady c.args.tracks.now.items) (sym all) c.requires.ready;
    }

pub commit_with-requires-clause-due : goal.commit_with-requires-clause-due
commit_with-requires-clause-due c = c.loop-ready.invariant.due

pub commit_with-requires-clause-next : goal.commit_with-requires-clause-next
commit_with-requires-clause-next c =
    let rows = c.loop-ready.tracks.items in
    let q = c.in-Some.ready in
    let split : into_iter_items c.loop-ready.ready-iterator ≡ q ∷ into_iter_items c.next.new.self = search rules in
    let same : to_z w64 (of_z w64 q.channel) ≡ q.channel = to_z-of_z w64 q.channel (search rules) in
    subst (λ i. IsNextIn (row_at rows i) q.points) (sym same) (subst (AreReady rows) split c.loop-ready.invariant.ready).0

pub loop-ready-preserved : goal.loop-ready-preserved
loop-ready-preserved c =
    let rows = c.loop-ready.tracks.items in
    let q = c.in-Some.ready in
    let left = into_iter_items c.next.new.self in
    let place = c.args.place in
    let at = to_z w64 (of_z w64 c.args.at) in
    let split : into_iter_items c.loop-ready.ready-iterator ≡ q ∷ left = search rules in
    let same : to_z w64 (of_z w64 q.channel) ≡ q.channel = to_z-of_z w64 q.channel (search rules) in
    let new : c.commit_with.new.tracks.items ≡ modify_at q.channel (done place q.channel at) rows = c.commit_with.ensures.done ∙ (λ j. modify_at (same j) (done place (same j) at) rows) in
    record {
      done = ap (all_done place at (ids_ready left)) new
          ∙ sym (done-first place at q.channel (ids_ready left) rows)
          ∙ ap (λ x. all_done place at (ids_ready x) rows) (sym split)
          ∙ c.loop-ready.invariant.done;
      due = c.commit_with.ensures.due;
      ready = subst (λ rs. AreReady rs left) (sym new) (ready-after place at q.channel rows left (subst (AreReady rows) split c.loop-ready.invariant.ready).1);
    }

pub returns : goal.returns
returns c =
    let rows = c.loop-ready.tracks.items in
    let at = to_z w64 (of_z w64 c.args.at) in
    let moment : at ≡ c.args.at = to_z-of_z w64 c.args.at c.ranges.at in
    let empty : length (into_iter_items c.loop-ready.ready-iterator) ≡ 0 = search rules in
    let none : into_iter_items c.loop-ready.ready-iterator ≡ [] = nil_from_length (into_iter_items c.loop-ready.ready-iterator) empty in
    sym (done-none c.args.place at rows)
    ∙ ap (λ x. all_done c.args.place at (ids_ready x) rows) (sym none)
    ∙ c.loop-ready.invariant.done
    ∙ (λ j. all_done c.args.place (moment j) (ids_ready c.args.readies.items) c.args.tracks.now.items)
