use Rattle.std.proofs.Common.{◌≡◌, sym, subst}
use Rattle.std.specs.Prelude.{IfOk}
use Rattle.std.specs.Option.{option_copied}
use Rattle.array_store.specs.Arrays.{slice_of}
use Rattle.array_store.specs.Refusals.{slice_refusal}
use Rattle.array_store.specs.Shape.{sizes}
use Rattle.tx_stage.specs.Looks.{slice_seen}
use Rattle.tx_stage.proofs.RefusedLemmas.{slice-refused}
use Rattle.tx_stage.proofs.look.see_slice.Goals as goal

pub returns-in-Err : goal.returns-in-Err
returns-in-Err c =
    let array = c.in-Some.array.now in
    let starts = c.args.starts.now in
    let counts = c.args.counts.now in
    let seen = slice-refused c.memory_or_refused.result c.in-Err.error (slice_refusal array starts counts) (slice_of (sizes array.dims) (sizes starts) (sizes counts) array.values) c.in-Err.ensures.done c.memory_or_refused.ensures in
    subst (λ o. IfOk c.memory_or_refused.result (λ l. l ≡ slice_seen starts counts (option_copied o))) (sym c.in-Some.is) seen
