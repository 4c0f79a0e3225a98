use Rattle.std.proofs.Common.{◌≡◌, drop}
use Rattle.std.specs.List.{list_any}
use Rattle.session_rows.specs.Formats.{same_format}
use Rattle.session_rows.proofs.formats.has_format.Given as goal

abbrev pub invariant-loop-other : goal.invariant-loop-other
invariant-loop-other l = list_any (same_format l.format) (drop l.other-index l.formats) ≡ list_any (same_format l.format) l.formats
