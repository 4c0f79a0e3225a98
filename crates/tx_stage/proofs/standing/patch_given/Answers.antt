use Rattle.std.proofs.Common.{◌≡◌, Some, false, cond, sym, ap, ◌∙◌, w64}
use Rattle.std.proofs.lemmas.Int.{to_z-of_z}
use Rattle.std.specs.Option.{option_map}
use Rattle.array_store.specs.declared.record.ArrayRecord.{ArrayRecord}
use Rattle.array_store.specs.Arrays.{is_bytes}
use Rattle.array_store.specs.Table.{patched_at, patched_in_place}
use Rattle.tx_stage.proofs.standing.patch_given.Goals as goal

pub returns : goal.returns
returns c =
    let at = c.args.at in
    let starts = c.args.starts.now in
    let counts = c.args.counts.now in
    let values = c.args.values.now in
    let array = c.in-Some.array in
    let made : c.in_ok-array.array ≡ patched_at at starts counts values array =
    c.in_ok-array.ensures.value ∙ ap (λ z. patched_at z starts counts values array) (to_z-of_z w64 at c.ranges.at) in
    let plain : is_bytes array.values ≡ false = sym (c.has_bytes.ensures ∙ ap (λ (r : ArrayRecord). is_bytes r.values) c.as_record.ensures) ∙ c.if-has_bytes.false in
    ap (λ (r : ArrayRecord). Some r) (made ∙ ap (λ b. cond b array (patched_at at starts counts values array)) (sym plain))
    ∙ ap (option_map (patched_in_place at starts counts values)) (sym c.in-Some.is)
