use Rattle.std.proofs.Common.{◌≡◌, ◌++◌, codes}
use Rattle.capture_text.specs.Faults.{fault_text}
use Rattle.capture_text.proofs.WritingLemmas.{writes_after}
use Rattle.capture_text.proofs.showing.put_refused.Goals as goal

pub returns : goal.returns
returns c =
    let f1 : c.put.new.into.items ≡ c.args.into.now.items ++ (codes " refused ") = c.in_ok-put.ensures in
    writes_after (codes " refused ") (fault_text c.args.error.now) c.args.into.now.items c.put.new.into.items c.put_fault.new.into.items c.put_fault.result f1 c.put_fault.ensures
