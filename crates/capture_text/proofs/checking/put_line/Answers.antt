use Rattle.std.proofs.Common.{◌≡◌, ◌++◌, codes}
use Rattle.std.specs.Fmt.{decimal}
use Rattle.capture_text.specs.Faults.{fault_text}
use Rattle.capture_text.proofs.WritingLemmas.{writes_after, joined}
use Rattle.capture_text.proofs.checking.put_line.Goals as goal

pub returns : goal.returns
returns c =
    let f1 : c.put_number.new.into.items ≡ c.args.into.now.items ++ (decimal c.args.offset) = c.in_ok-put_number.ensures in
    let f2 = joined (decimal c.args.offset) (codes " ") c.args.into.now.items c.put_number.new.into.items c.put.new.into.items f1 c.in_ok-put.ensures in
    let f3 = joined ((decimal c.args.offset) ++ (codes " ")) (fault_text c.args.error.now) c.args.into.now.items c.put.new.into.items c.put_fault.new.into.items f2 c.in_ok-put_fault.ensures in
    writes_after (((decimal c.args.offset) ++ (codes " ")) ++ (fault_text c.args.error.now)) (codes "\n") c.args.into.now.items c.put_fault.new.into.items c.put-2.new.into.items c.put-2.result f3 c.put-2.ensures
