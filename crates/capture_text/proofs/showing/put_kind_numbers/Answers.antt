use Rattle.std.proofs.Common.{◌≡◌, ◌++◌, codes, w32, w64, to_z, of_z, rules}
use Rattle.std.proofs.lemmas.Int.{to_z-of_z}
use Rattle.capture_text.specs.Lines.{labelled}
use Rattle.capture_text.proofs.WritingLemmas.{writes_after}
use Rattle.capture_text.proofs.showing.put_kind_numbers.Goals as goal

pub returns : goal.returns
returns c =
    let s1 : to_z w32 (of_z w32 c.args.header.now.protocol) ≡ c.args.header.now.protocol = to_z-of_z w32 c.args.header.now.protocol (search rules) in
    let t1 : to_z w64 (of_z w64 c.args.header.now.protocol) ≡ c.args.header.now.protocol = to_z-of_z w64 c.args.header.now.protocol (search rules) in
    let s2 : to_z w32 (of_z w32 c.args.header.now.kind) ≡ c.args.header.now.kind = to_z-of_z w32 c.args.header.now.kind (search rules) in
    let t2 : to_z w64 (of_z w64 c.args.header.now.kind) ≡ c.args.header.now.kind = to_z-of_z w64 c.args.header.now.kind (search rules) in
    let f1 : c.put_field.new.into.items ≡ c.args.into.now.items ++ (labelled (codes " p=") c.args.header.now.protocol) = rw (s1, t1) at c.in_ok-put_field.ensures in
    writes_after (labelled (codes " p=") c.args.header.now.protocol) (labelled (codes " t=") c.args.header.now.kind) c.args.into.now.items c.put_field.new.into.items c.put_field-2.new.into.items c.put_field-2.result f1 (rw (s2, t2) at c.put_field-2.ensures)
