use Rattle.std.proofs.Common.{subst, ap, sym, ◌∙◌}
use Rattle.std.proofs.lemmas.Grind.{flat_map-append}
use Rattle.std.specs.List.{flat_map}
use Rattle.avro_bin.specs.Plain.{Writes}
use Rattle.capture_text.specs.Points.{point_line}
use Rattle.capture_text.proofs.WritingLemmas.{writes_after}
use Rattle.watch_views.proofs.window.put_ring.Goals as goal

pub returns : goal.returns
returns c =
    subst (λ t. Writes t c.args.into.now.items c.put_points-2.new.into.items c.put_points-2.result)
    (sym (flat_map-append point_line c.as_slices.result.0.now c.as_slices.result.1.now) ∙ ap (flat_map point_line) c.as_slices.ensures)
    (writes_after _ _ _ _ _ c.put_points-2.result c.in_ok-put_points.ensures c.put_points-2.ensures)
