use Rattle.std.proofs.Common.{◌≡◌, ◌++◌, codes, append_assoc}
use Rattle.capture_text.specs.Pieces.{separator, quoted}
use Rattle.capture_text.proofs.WritingLemmas.{writes_after}
use Rattle.capture_text.proofs.values.put_key.Goals as goal

pub returns : goal.returns
returns c =
    let front : c.put_quoted.new.into.items ≡ c.args.into.now.items ++ (separator c.args.i ++ quoted c.args.name.now) =
    rw (c.in_ok-put_quoted.ensures, c.in_ok-put_separator.ensures, c.as_bytes.ensures.value) (simp append_assoc) in
    writes_after (separator c.args.i ++ quoted c.args.name.now) (codes ": ") c.args.into.now.items c.put_quoted.new.into.items c.put.new.into.items c.put.result front c.put.ensures
