use Rattle.std.proofs.Common.{◌∙◌, sym, rules}
use Rattle.etp_frame.proofs.PlaceLemmas.{found_none, found_place, any_at_place, awaits_read}
use Rattle.etp_frame.proofs.awaiting.place_of.Goals as goal

pub returns-in-None : goal.returns-in-None
returns-in-None c = found_none c.args.places.now.entries c.args.id c.args.objects.now c.requires (sym c.in-None.ensures.value)

pub bounds-objects-place : goal.bounds-objects-place
bounds-objects-place c = (found_place c.args.places.now.entries c.args.id c.args.objects.now c.in-Some.place.now c.requires (sym c.in-Some.ensures.value)).0

pub offset_bounds-objects-place : goal.offset_bounds-objects-place
offset_bounds-objects-place c =
    let within = (found_place c.args.places.now.entries c.args.id c.args.objects.now c.in-Some.place.now c.requires (sym c.in-Some.ensures.value)).0 in
    search (rules, within)

pub returns-then-has_blob : goal.returns-then-has_blob
returns-then-has_blob c =
    let xs = c.args.objects.now in
    let f = found_place c.args.places.now.entries c.args.id xs c.in-Some.place.now c.requires (sym c.in-Some.ensures.value) in
    (f.0, f.1, awaits_read c.in-Some.place.now c.args.id xs c.index-objects-place.result f.0 ∙ sym c.has_blob.ensures ∙ c.if-has_blob.true)

pub returns : goal.returns
returns c =
    let xs = c.args.objects.now in
    let f = found_place c.args.places.now.entries c.args.id xs c.in-Some.place.now c.requires (sym c.in-Some.ensures.value) in
    any_at_place c.in-Some.place.now c.args.id xs f.1 ∙ awaits_read c.in-Some.place.now c.args.id xs c.index-objects-place.result f.0 ∙ sym c.has_blob.ensures ∙ c.if-has_blob.false
