use Rattle.std.proofs.Common.{◌≡◌, ◌++◌, codes, w64, to_z, of_z, rules}
use Rattle.std.proofs.lemmas.Int.{to_z-of_z}
use Rattle.std.specs.Fmt.{signed_decimal}
use Rattle.capture_text.specs.Points.{value_alone}
use Rattle.capture_text.proofs.WritingLemmas.{writes_after, joined}
use Rattle.capture_text.proofs.points.put_line.Goals as goal

pub returns : goal.returns
returns c =
    let t1 : to_z w64 (of_z w64 c.args.index) ≡ c.args.index = to_z-of_z w64 c.args.index (search rules) in
    let f1 : c.put_signed.new.into.items ≡ c.args.into.now.items ++ signed_decimal c.args.index = rw t1 at c.in_ok-put_signed.ensures in
    let f2 = joined (signed_decimal c.args.index) (codes " ") c.args.into.now.items c.put_signed.new.into.items c.put.new.into.items f1 c.in_ok-put.ensures in
    let f3 = joined (signed_decimal c.args.index ++ codes " ") (value_alone c.args.value.now) c.args.into.now.items c.put.new.into.items c.put_alone.new.into.items f2 c.in_ok-put_alone.ensures in
    writes_after ((signed_decimal c.args.index ++ codes " ") ++ value_alone c.args.value.now) (codes "\n") c.args.into.now.items c.put_alone.new.into.items c.put-2.new.into.items c.put-2.result f3 c.put-2.ensures
