use Rattle.std.proofs.Common.{◌≡◌, sym, ap, subst, ◌∙◌}
use Rattle.std.specs.Prelude.{IfOk}
use Rattle.std.specs.Option.{option_copied}
use Rattle.array_store.specs.Arrays.{slice_of}
use Rattle.array_store.specs.Refusals.{slice_refusal}
use Rattle.array_store.specs.Shape.{sizes}
use Rattle.tx_stage.specs.declared.look.Looked.TheVariants.{Refused}
use Rattle.tx_stage.specs.Looks.{given, slice_seen}
use Rattle.tx_stage.proofs.LookLemmas.{given-refused}
use Rattle.tx_stage.proofs.look.give_slice.Goals as goal

pub returns-in-Ok : goal.returns-in-Ok
returns-in-Ok c =
    subst (λ o. IfOk c.give_region.result (λ l. l ≡ given c.args.room (slice_seen c.args.starts.now c.args.counts.now (option_copied o)))) (sym c.in-Some.is) c.give_region.ensures

pub returns-in-Err : goal.returns-in-Err
returns-in-Err c =
    let array = c.in-Some.array.now in
    let starts = c.args.starts.now in
    let counts = c.args.counts.now in
    let seen = ap (λ code. Refused code) c.code.ensures ∙ given-refused c.args.room c.in-Err.error (slice_refusal array starts counts) (slice_of (sizes array.dims) (sizes starts) (sizes counts) array.values) c.in-Err.ensures in
    subst (λ o. Refused c.code.result ≡ given c.args.room (slice_seen starts counts (option_copied o))) (sym c.in-Some.is) seen
