use Rattle.std.proofs.Common.{◌≡◌, ◌++◌, codes}
use Rattle.capture_text.specs.Names.{message_at}
use Rattle.capture_text.specs.Lines.{kind_text, ids_text}
use Rattle.capture_text.proofs.WritingLemmas.{writes_after, joined}
use Rattle.capture_text.proofs.showing.put_title.Goals as goal

pub returns : goal.returns
returns c =
    let f1 : c.put.new.into.items ≡ c.args.into.now.items ++ (codes " ") = c.in_ok-put.ensures in
    let f2 = joined (codes " ") (message_at c.args.place) c.args.into.now.items c.put.new.into.items c.put-2.new.into.items f1 (rw (c.as_bytes.ensures.value, c.message_of.ensures) at c.in_ok-put-2.ensures) in
    writes_after ((codes " ") ++ (message_at c.args.place)) (kind_text c.args.header.now ++ ids_text c.args.header.now) c.args.into.now.items c.put-2.new.into.items c.put_header.new.into.items c.put_header.result f2 c.put_header.ensures
