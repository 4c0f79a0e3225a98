use Rattle.std.proofs.Common.{◌≡◌, ◌++◌, codes, w64, to_z, of_z, rules}
use Rattle.std.proofs.lemmas.Int.{to_z-of_z}
use Rattle.std.specs.Fmt.{decimal}
use Rattle.capture_text.specs.Lines.{start_text, labelled}
use Rattle.capture_text.proofs.WritingLemmas.{writes_after, joined}
use Rattle.capture_text.proofs.showing.put_front.Goals as goal

pub returns : goal.returns
returns c =
    let t1 : to_z w64 (of_z w64 c.args.frame.now.moment) ≡ c.args.frame.now.moment = to_z-of_z w64 c.args.frame.now.moment (search rules) in
    let f1 : c.put_start.new.into.items ≡ c.args.into.now.items ++ (start_text c.args.offset c.args.frame.now.kind) = c.in_ok-put_start.ensures in
    let f2 = joined (start_text c.args.offset c.args.frame.now.kind) (codes " ") c.args.into.now.items c.put_start.new.into.items c.put.new.into.items f1 c.in_ok-put.ensures in
    let f3 = joined ((start_text c.args.offset c.args.frame.now.kind) ++ (codes " ")) (decimal c.args.frame.now.tag) c.args.into.now.items c.put.new.into.items c.put_number.new.into.items f2 c.in_ok-put_number.ensures in
    writes_after (((start_text c.args.offset c.args.frame.now.kind) ++ (codes " ")) ++ (decimal c.args.frame.now.tag)) (labelled (codes " ") c.args.frame.now.moment) c.args.into.now.items c.put_number.new.into.items c.put_field.new.into.items c.put_field.result f3 (rw t1 at c.put_field.ensures)
