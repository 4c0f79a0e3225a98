use Rattle.std.proofs.Common.{◌≡◌, ◌≤◌, ◌/◌, ◌%◌, length, sym, ap, ◌∙◌, arith, Some, None}
use Rattle.std.specs.Prelude.{slice_get}
use Rattle.std.specs.Option.{option_copied}
use Rattle.channel_points.proofs.BlockLemmas.{get-block, get-last, past-none}
use Rattle.channel_points.proofs.rows.Rows.get.Goals as goal

pub returns-in-Some : goal.returns-in-Some
returns-in-Some g c =
    let place = c.args.place in
    let full = c.self.inside.full.items in
    let there : slice_get full (place / 1024) ≡ Some c.in-Some.block.now = ap (λ l. slice_get l (place / 1024)) (sym c.as_slice.ensures.value) ∙ sym c.item_at.ensures ∙ ap option_copied c.in-Some.is in
    c.item_at-in-Some.ensures
    ∙ ap (λ l. slice_get l (place % 1024)) c.as_slice-in-Some.ensures
    ∙ sym (get-block full c.self.inside.last.items c.in-Some.block.now (place / 1024) (place % 1024) place c.self.invariant.parts.filled (omega arith) (omega arith) there)
    ∙ ap (λ s. slice_get s.items place) c.self.view_is

pub behind-requires : goal.behind-requires
behind-requires g c =
    let place = c.args.place in
    let full = c.self.inside.full.items in
    let none : slice_get full (place / 1024) ≡ None = ap (λ l. slice_get l (place / 1024)) (sym c.as_slice.ensures.value) ∙ sym c.item_at.ensures ∙ ap option_copied c.in-None.is in
    let past : length full ≤ place / 1024 = past-none full (place / 1024) none in
    omega (arith, c.self.inside.full.ok.0)

pub returns-in-None : goal.returns-in-None
returns-in-None g c =
    let place = c.args.place in
    let full = c.self.inside.full.items in
    let none : slice_get full (place / 1024) ≡ None = ap (λ l. slice_get l (place / 1024)) (sym c.as_slice.ensures.value) ∙ sym c.item_at.ensures ∙ ap option_copied c.in-None.is in
    let past : length full ≤ place / 1024 = past-none full (place / 1024) none in
    c.item_at-in-None.ensures
    ∙ ap (λ l. slice_get l c.behind.result) c.as_slice-in-None.ensures.value
    ∙ sym (get-last full c.self.inside.last.items c.behind.result place c.self.invariant.parts.filled (omega (arith, c.self.inside.full.ok.0)))
    ∙ ap (λ s. slice_get s.items place) c.self.view_is
