-- What is left, put to the ids so far, leads where the whole leads.
use Rattle.std.proofs.Common.{◌≡◌, drop, fold}
use Rattle.std.specs.BTreeMap.{insert_entry}
use Rattle.std.specs.Cmp.Lexicographic.{slice_cmp}
use Rattle.std.specs.Fmt.{signed_decimal}
use Rattle.std.specs.Ordering.{nat_cmp}
use Rattle.channel_rows.specs.Notices.{ids_of}
use Rattle.channel_rows.proofs.notices.ids_of.Given as goal

abbrev pub invariant-loop-sub : goal.invariant-loop-sub
invariant-loop-sub l = fold (λ ids s. insert_entry (slice_cmp nat_cmp) ids (signed_decimal s.channel) s.channel) l.ids.entries (drop l.sub-index l.subs) ≡ ids_of l.subs
