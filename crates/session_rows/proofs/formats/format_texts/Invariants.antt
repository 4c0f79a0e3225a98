use Rattle.std.proofs.Common.{◌≡◌, ◌++◌, drop, map}
use Rattle.session_rows.specs.Formats.{format_text}
use Rattle.session_rows.proofs.formats.format_texts.Given as goal

abbrev pub invariant-loop-format : goal.invariant-loop-format
invariant-loop-format l = l.texts.items ++ map format_text (drop l.format-index l.formats) ≡ map format_text l.formats
