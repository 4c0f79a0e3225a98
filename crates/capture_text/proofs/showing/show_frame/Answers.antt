use Rattle.std.proofs.Common.{◌≡◌, ◌++◌, codes}
use Rattle.capture_text.specs.Lines.{front_text, rest_text, reading_of}
use Rattle.capture_text.proofs.WritingLemmas.{writes_after, joined}
use Rattle.capture_text.proofs.showing.show_frame.Goals as goal

pub returns : goal.returns
returns c =
    let f1 : c.put_front.new.into.items ≡ c.args.into.now.items ++ (front_text c.args.offset c.args.frame.now) = c.in_ok-put_front.ensures in
    let f2 = joined (front_text c.args.offset c.args.frame.now) (rest_text (reading_of c.args.frame.now) c.args.frame.now) c.args.into.now.items c.put_front.new.into.items c.put_rest.new.into.items f1 c.in_ok-put_rest.ensures in
    writes_after ((front_text c.args.offset c.args.frame.now) ++ (rest_text (reading_of c.args.frame.now) c.args.frame.now)) (codes "\n") c.args.into.now.items c.put_rest.new.into.items c.put.new.into.items c.put.result f2 c.put.ensures
