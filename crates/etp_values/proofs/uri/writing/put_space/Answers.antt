use Rattle.std.proofs.Common.{string_bytes, sym, ◌∙◌}
use Rattle.etp_values.proofs.UriPartLemmas.{space_pieces}
use Rattle.etp_values.proofs.uri.writing.put_space.Goals as goal

pub returns : goal.returns
returns c =
    space_pieces (string_bytes c.args.out.now) c.args.path.now _ _ _ _ (sym c.is_empty.ensures ∙ c.if-is_empty.false) c.in_ok-push_str.ensures.bytes c.in_ok-push_str-2.ensures.bytes
    c.in_ok-put_doubled.ensures c.in_ok-push_str-3.ensures.bytes
