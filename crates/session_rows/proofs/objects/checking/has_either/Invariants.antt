use Rattle.std.proofs.Common.{◌≡◌, drop}
use Rattle.std.specs.List.{list_any}
use Rattle.std.specs.Prelude.{◌||◌}
use Rattle.std.specs.Str.{bytes_eq}
use Rattle.session_rows.proofs.objects.checking.has_either.Given as goal

abbrev pub invariant-loop-filter : goal.invariant-loop-filter
invariant-loop-filter l = list_any (λ filter. bytes_eq filter l.exact || bytes_eq filter l.any) (drop l.filter-index l.filters) ≡ list_any (λ filter. bytes_eq filter l.exact || bytes_eq filter l.any) l.filters
