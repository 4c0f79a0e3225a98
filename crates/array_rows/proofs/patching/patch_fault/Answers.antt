use Rattle.std.proofs.Common.{◌≡◌, subst}
use Rattle.std.specs.Prelude.{IfOk}
use Rattle.array_rows.specs.Changing.{write_fault}
use Rattle.array_rows.proofs.patching.patch_fault.Goals as goal

pub returns : goal.returns
returns c = subst (λ values. IfOk c.write_fault.result (λ code. code ≡ write_fault c.args.array.now c.args.patch.now.starts c.args.patch.now.counts values)) c.in_ok-values.ensures c.write_fault.ensures
