use Rattle.std.proofs.Common.{◌++◌, take}
use Rattle.std.proofs.KnownBytes.{Consumes-trans}
use Rattle.etp_outside.proofs.whole.read_all.Goals as goal

-- what was read before, and what the last call gave
pub returns-then-is_err-clause-err : goal.returns-then-is_err-clause-err
returns-then-is_err-clause-err g c =
    (c.loop-count.all.items ++ take c.in-Got.count c.read.new.buf, Consumes-trans _ _ _ _ _ c.loop-count.invariant.bytes c.in-Got.ensures.bytes)
