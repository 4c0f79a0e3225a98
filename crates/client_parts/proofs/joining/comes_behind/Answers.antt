use Rattle.std.proofs.Common.{◌∙◌, length, sym}
use Rattle.std.specs.Cmp.Lexicographic.{slice_cmp}
use Rattle.std.specs.Ordering.{is_lt, nat_cmp}
use Rattle.client_parts.proofs.MergeLemmas.{entries_behind, filled, on_true}
use Rattle.client_parts.proofs.joining.comes_behind.Goals as goal

pub returns : goal.returns
returns g c =
    on_true c.is_below.result
    (λ less. entries_behind _ _ c.index-first-first.result c.index-more-0.result c.requires.first c.requires.more (filled (length c.args.first.now) _ c.is_empty.ensures c.if-is_empty.false)
    (filled (length c.args.more.now) _ c.is_empty-2.ensures c.if-is_empty-2.false) c.index-first-first.is c.index-more-0.is
    ((λ j. is_lt (slice_cmp nat_cmp (c.index-first-first.is j).0 (c.index-more-0.is j).0)) ∙ sym c.is_below.ensures ∙ less))
