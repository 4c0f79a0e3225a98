use Rattle.std.proofs.Common.{◌∙◌, sym}
use Rattle.array_store.specs.Refusals.{write_refusal}
use Rattle.array_rows.proofs.CodeLemmas.{refusal_code}
use Rattle.array_rows.proofs.patching.write_fault.Goals as goal

pub returns-in_ok-code-in-Err : goal.returns-in_ok-code-in-Err
returns-in_ok-code-in-Err c = refusal_code c.in-Err.error c.in_ok-code-in-Err.code (write_refusal c.args.array.now c.args.starts.now c.args.counts.now c.args.values) c.in-Err.ensures.done (sym c.memory_or_code.ensures ∙ c.in_ok-code-in-Err.was)
