use Rattle.std.proofs.Common.{◌≡◌, ◌∙◌, ◌==◌, length, true, false, sym, ap}
use Rattle.std.proofs.lemmas.Result.{IfOk-weaker}
use Rattle.etp_frame.specs.Grouping.{goes_in}
use Rattle.etp_frame.proofs.GroupLemmas.{capped_more, goes_in_is, kept_measure, kept_leads, closed_measure, closed_leads}
use Rattle.etp_frame.proofs.grouping.place.Goals as goal

pub returns-then-goes_in-clause-measure : goal.returns-then-goes_in-clause-measure
returns-then-goes_in-clause-measure g c =
    let size = g.M.Measuring.amount in
    let old = c.args.grouped in
    let sum = capped_more size old.held.items c.args.item old.measure c.measure-own.result c.plus-sum.result c.requires c.measure-own.ensures c.plus-sum.ensures in
    IfOk-weaker c.keep.result _ _ (λ y made. kept_measure size c.args.limit old.closed.items old.held.items c.args.item y.closed.items y.held.items c.plus-sum.result y.measure sum made) c.keep.ensures

pub returns-then-goes_in-clause-leads : goal.returns-then-goes_in-clause-leads
returns-then-goes_in-clause-leads g c =
    let size = g.M.Measuring.amount in
    let old = c.args.grouped in
    let sum = capped_more size old.held.items c.args.item old.measure c.measure-own.result c.plus-sum.result c.requires c.measure-own.ensures c.plus-sum.ensures in
    let first : c.is_empty-is_first.result ≡ (length old.held.items == 0) = c.is_empty-is_first.ensures ∙ ap (λ l. length l == 0) c.as_slice.ensures.value in
    let goes : goes_in size c.args.limit old.held.items c.args.item ≡ true = goes_in_is size c.args.limit old.held.items c.args.item c.plus-sum.result c.is_empty-is_first.result true c.ranges.limit.fits first sum (sym c.if-goes_in.true ∙ c.goes_in.ensures) in
    IfOk-weaker c.keep.result _ _ (λ y made. kept_leads size c.args.limit old.closed.items old.held.items c.args.item y.closed.items y.held.items c.plus-sum.result y.measure goes made) c.keep.ensures

pub returns-clause-measure : goal.returns-clause-measure
returns-clause-measure g c =
    let size = g.M.Measuring.amount in
    let old = c.args.grouped in
    IfOk-weaker c.close.result _ _ (λ y made. closed_measure size c.args.limit old.closed.items old.held.items c.args.item y.closed.items y.held.items c.measure-own.result y.measure c.measure-own.ensures made) c.close.ensures

pub returns-clause-leads : goal.returns-clause-leads
returns-clause-leads g c =
    let size = g.M.Measuring.amount in
    let old = c.args.grouped in
    let sum = capped_more size old.held.items c.args.item old.measure c.measure-own.result c.plus-sum.result c.requires c.measure-own.ensures c.plus-sum.ensures in
    let first : c.is_empty-is_first.result ≡ (length old.held.items == 0) = c.is_empty-is_first.ensures ∙ ap (λ l. length l == 0) c.as_slice.ensures.value in
    let goes : goes_in size c.args.limit old.held.items c.args.item ≡ false = goes_in_is size c.args.limit old.held.items c.args.item c.plus-sum.result c.is_empty-is_first.result false c.ranges.limit.fits first sum (sym c.if-goes_in.false ∙ c.goes_in.ensures) in
    IfOk-weaker c.close.result _ _ (λ y made. closed_leads size c.args.limit old.closed.items old.held.items c.args.item y.closed.items y.held.items c.measure-own.result y.measure goes made) c.close.ensures
