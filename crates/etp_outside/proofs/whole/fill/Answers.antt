use Rattle.std.proofs.Common.{rules, ◌-◌, length, le_refl, sym, subst, rules}
use Rattle.std.proofs.lemmas.Slice.{take-put_mid_below}
use Rattle.std.specs.Io.KnownBytes.{Consumes}
use Rattle.std.proofs.KnownBytes.{Consumes-trans, Consumes-kept}
use Rattle.etp_outside.proofs.PartLemmas.{take_put}
use Rattle.etp_outside.proofs.whole.fill.Goals as goal

pub loop-at-preserved : goal.loop-at-preserved
loop-at-preserved g c =
    let inv = c.loop-at.invariant in
    let more = take_put c.loop-at.at (length c.loop-at.buf - c.loop-at.at) c.in-Got.count c.loop-at.buf c.read.new.buf inv.within c.in-Got.ensures.count.1 in
    record {
      within = search rules;
      bytes = subst (Consumes _ _) (sym more) (Consumes-trans _ _ _ _ _ inv.bytes c.in-Got.ensures.bytes);
      kept = search rules;
    }

pub returns-in-End-clause-bytes : goal.returns-in-End-clause-bytes
returns-in-End-clause-bytes g c =
    let front = take-put_mid_below c.loop-at.at (length c.loop-at.buf - c.loop-at.at) c.loop-at.buf c.read.new.buf c.loop-at.at (le_refl _) c.loop-at.invariant.within in
    (search rules, subst (Consumes _ _) (sym front) (Consumes-kept _ _ _ _ c.loop-at.invariant.bytes c.in-End.ensures.bytes.0), c.in-End.ensures.bytes.1)
