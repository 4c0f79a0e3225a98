use Rattle.std.proofs.Common.{ℕ, drop, get_or, ap, subst, arith, ◌≡◌, ◌-◌}
use Rattle.etp_frame.proofs.PieceLemmas.{Object}
use Rattle.etp_frame.proofs.PlaceLemmas.{Places, place_step, place_clash, finds_each}
use Rattle.etp_frame.proofs.awaiting.blob_places.Goals as goal

pub returns-then-not-branch : goal.returns-then-not-branch
returns-then-not-branch c =
    let l = c.loop-place in
    let xs = c.args.objects.now in
    place_clash xs l.place (get_or xs (l.place - 1) c.index-objects-place.result) c.in_ok-add_place.field-0 l.places.entries c.add_place.new.places.entries c.loop-place-test.true l.invariant.within (ap (λ (d : Object). get_or xs (l.place - 1) d) c.index-objects-place.is) l.invariant.places c.in_ok-add_place.ensures c.if-not-branch.true

pub loop-place-preserved : goal.loop-place-preserved
loop-place-preserved c =
    let l = c.loop-place in
    let xs = c.args.objects.now in
    record {
      within = omega (arith, l.invariant.within);
      places = place_step xs l.place (get_or xs (l.place - 1) c.index-objects-place.result) c.in_ok-add_place.field-0 l.places.entries c.add_place.new.places.entries c.loop-place-test.true l.invariant.within (ap (λ (d : Object). get_or xs (l.place - 1) d) c.index-objects-place.is) l.invariant.places c.in_ok-add_place.ensures c.if-not-branch.false;
    }

pub returns : goal.returns
returns c =
    let l = c.loop-place in
    let xs = c.args.objects.now in
    let e : l.place ≡ 0 = omega (arith, c.loop-place-test.false) in
    let p : Places 0 l.places.entries xs = subst (λ (n : ℕ). Places n l.places.entries (drop n xs)) e l.invariant.places in
    (p.apart, finds_each l.places.entries xs p)
