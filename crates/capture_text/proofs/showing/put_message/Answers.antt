use Rattle.std.proofs.Common.{◌≡◌, ◌++◌, codes}
use Rattle.avro_bin.specs.View.{value_of}
use Rattle.capture_text.specs.Lines.{title_text}
use Rattle.capture_text.specs.Values.{value_text}
use Rattle.capture_text.proofs.WritingLemmas.{writes_after, joined}
use Rattle.capture_text.proofs.showing.put_message.Goals as goal

pub returns : goal.returns
returns c =
    let f1 : c.put_title.new.into.items ≡ c.args.into.now.items ++ (title_text c.args.place c.args.header.now) = c.in_ok-put_title.ensures in
    let f2 = joined (title_text c.args.place c.args.header.now) (codes " ") c.args.into.now.items c.put_title.new.into.items c.put.new.into.items f1 c.in_ok-put.ensures in
    writes_after ((title_text c.args.place c.args.header.now) ++ (codes " ")) (value_text c.args.place (value_of c.args.body.now)) c.args.into.now.items c.put.new.into.items c.put_value.new.into.items c.put_value.result f2 c.put_value.ensures
