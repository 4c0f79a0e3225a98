use Rattle.std.proofs.Common.{◌∙◌, sym, ap, true, false, is_none}
use Rattle.etp_frame.proofs.PlaceLemmas.{adds_place}
use Rattle.etp_frame.proofs.awaiting.add_place.Goals as goal

pub returns-in-Some-2 : goal.returns-in-Some-2
returns-in-Some-2 c =
    let old = c.args.places.now.entries in
    let e = c.in_ok-insert.ensures in
    adds_place false c.args.object.now.blob_id c.in-Some.id c.args.place old c.insert.new.self.entries c.in-Some.is (sym (ap is_none (sym e.old ∙ c.in-Some-2.is))) e.updates.0

pub returns-in-None : goal.returns-in-None
returns-in-None c =
    let old = c.args.places.now.entries in
    let e = c.in_ok-insert.ensures in
    adds_place true c.args.object.now.blob_id c.in-Some.id c.args.place old c.insert.new.self.entries c.in-Some.is (sym (ap is_none (sym e.old ∙ c.in-None.is))) e.updates.0
