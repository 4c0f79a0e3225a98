-- What is left, continued from the formats so far, leads where the whole leads.
use Rattle.std.proofs.Common.{◌≡◌, drop, fold}
use Rattle.std.specs.List.{filter_map}
use Rattle.session_rows.specs.Formats.{format_of, formats_of, same_format}
use Rattle.session_rows.specs.Once.{with_new}
use Rattle.session_rows.proofs.formats.formats_of.Given as goal

abbrev pub invariant-loop-text : goal.invariant-loop-text
invariant-loop-text l = fold (with_new same_format) l.formats.items (filter_map format_of (drop l.text-index l.texts)) ≡ formats_of l.texts
