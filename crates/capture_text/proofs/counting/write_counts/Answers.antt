use Rattle.std.proofs.Common.{◌≡◌, ◌++◌, codes}
use Rattle.capture_text.specs.Lines.{counted}
use Rattle.capture_text.proofs.WritingLemmas.{writes_after, joined}
use Rattle.capture_text.proofs.counting.write_counts.Goals as goal

pub returns : goal.returns
returns c =
    let f1 : c.put_count.new.into.items ≡ c.args.into.now.items ++ (counted (codes "frames ") c.args.counts.now.frames) = c.in_ok-put_count.ensures in
    let f2 = joined (counted (codes "frames ") c.args.counts.now.frames) (counted (codes " messages ") c.args.counts.now.messages) c.args.into.now.items c.put_count.new.into.items c.put_count-2.new.into.items f1 c.in_ok-put_count-2.ensures in
    let f3 = joined ((counted (codes "frames ") c.args.counts.now.frames) ++ (counted (codes " messages ") c.args.counts.now.messages)) (counted (codes " refused ") c.args.counts.now.refused) c.args.into.now.items c.put_count-2.new.into.items c.put_count-3.new.into.items f2 c.in_ok-put_count-3.ensures in
    writes_after (((counted (codes "frames ") c.args.counts.now.frames) ++ (counted (codes " messages ") c.args.counts.now.messages)) ++ (counted (codes " refused ") c.args.counts.now.refused)) (codes "\n") c.args.into.now.items c.put_count-3.new.into.items c.put.new.into.items c.put.result f3 c.put.ensures
