use Rattle.std.proofs.Common.{◌≡◌, ◌++◌, drop}
use Rattle.client_forms.specs.Texts.{space_lines}
use Rattle.client_forms.proofs.listing.space_lines.Given as goal

-- what was written, and what the dataspaces that are left give
abbrev pub invariant-loop-space : goal.invariant-loop-space
invariant-loop-space l = l.lines.items ++ space_lines (drop l.space-index l.spaces) ≡ space_lines l.spaces
