use Rattle.std.proofs.Common.{sym, ap, ◌∙◌}
use Rattle.array_store.specs.Arrays.{is_bytes}
use Rattle.array_store.proofs.SoundLemmas.{kept-in-place}
use Rattle.array_store.proofs.weighed.WeighedArray.patch_in_place.Goals as goal

pub returns-else-is_ok-clause-value : goal.returns-else-is_ok-clause-value
returns-else-is_ok-clause-value c =
    kept-in-place c.patch.result c.args.self.now c.patch.new.self c.args.at c.args.starts.now c.args.counts.now c.args.values
    (sym c.is_ok.ensures.value ∙ c.if-is_ok.false) (sym (c.has_bytes.ensures ∙ ap (λ r. is_bytes r.values) c.as_record.ensures) ∙ c.if-has_bytes.false) c.patch.ensures.done c.patch.ensures.err c.patch.ensures.memory
