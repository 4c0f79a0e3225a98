use Rattle.std.proofs.Common.{◌≡◌, ◌++◌, codes, w32, w64, to_z, of_z, rules}
use Rattle.std.proofs.lemmas.Int.{to_z-of_z}
use Rattle.capture_text.specs.Lines.{labelled}
use Rattle.capture_text.proofs.WritingLemmas.{writes_after, joined}
use Rattle.capture_text.proofs.showing.put_ids.Goals as goal

pub returns : goal.returns
returns c =
    let t1 : to_z w64 (of_z w64 c.args.header.now.correlation) ≡ c.args.header.now.correlation = to_z-of_z w64 c.args.header.now.correlation (search rules) in
    let t2 : to_z w64 (of_z w64 c.args.header.now.id) ≡ c.args.header.now.id = to_z-of_z w64 c.args.header.now.id (search rules) in
    let s3 : to_z w32 (of_z w32 c.args.header.now.flags) ≡ c.args.header.now.flags = to_z-of_z w32 c.args.header.now.flags (search rules) in
    let t3 : to_z w64 (of_z w64 c.args.header.now.flags) ≡ c.args.header.now.flags = to_z-of_z w64 c.args.header.now.flags (search rules) in
    let f1 : c.put_field.new.into.items ≡ c.args.into.now.items ++ (labelled (codes " c=") c.args.header.now.correlation) = rw t1 at c.in_ok-put_field.ensures in
    let f2 = joined (labelled (codes " c=") c.args.header.now.correlation) (labelled (codes " m=") c.args.header.now.id) c.args.into.now.items c.put_field.new.into.items c.put_field-2.new.into.items f1 (rw t2 at c.in_ok-put_field-2.ensures) in
    writes_after ((labelled (codes " c=") c.args.header.now.correlation) ++ (labelled (codes " m=") c.args.header.now.id)) (labelled (codes " f=") c.args.header.now.flags) c.args.into.now.items c.put_field-2.new.into.items c.put_field-3.new.into.items c.put_field-3.result f2 (rw (s3, t3) at c.put_field-3.ensures)
