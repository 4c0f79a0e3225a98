use Rattle.std.proofs.Common.{rules, subst, rules}
use Rattle.std.specs.Io.KnownBytes.{Appends}
use Rattle.std.proofs.KnownBytes.{Appends-trans}
use Rattle.etp_outside.proofs.PartLemmas.{take_range}
use Rattle.etp_outside.proofs.whole.write_all.Goals as goal

pub loop-at-preserved : goal.loop-at-preserved
loop-at-preserved g c =
    record {
      within = search rules;
      bytes = subst (Appends _ _) (take_range c.loop-at.at c.in-Took.count c.args.piece.now (search rules)) (Appends-trans _ _ _ _ _ c.loop-at.invariant.bytes c.in-Took.ensures.bytes);
      kept = search rules;
    }
