use Rattle.std.proofs.Common.{◌∙◌, refl, sym, ap}
use Rattle.etp_frame.specs.declared.error.FrameError.{FrameError}
use Rattle.etp_frame.specs.declared.stage.Reading.TheVariants as p
use Rattle.etp_frame.proofs.FaultLemmas.{fault_not_memory}
use Rattle.etp_frame.proofs.FeedingLemmas.{says_tree}
use Rattle.etp_frame.proofs.stage.refused_front.Goals as goal

pub returns-in-Ok-Some : goal.returns-in-Ok-Some
returns-in-Ok-Some c =
    let is = rw c.in-Ok-Some.field-0-is at c.in-Ok-Some.ensures in
    record {
      says = ap (λ (x : FrameError). p.Refused x) is.1 ∙ sym is.2 ∙ says_tree c.args.sender c.args.bytes.items c.args.error (c.requires (fault_not_memory c.args.error is.0));
      has = refl;
      stands = tt;
    }

pub returns-in-Ok-None : goal.returns-in-Ok-None
returns-in-Ok-None c =
    let is = rw c.in-Ok-None.field-0-is at c.in-Ok-None.ensures in
    record {
      says = sym is.1 ∙ says_tree c.args.sender c.args.bytes.items c.args.error (c.requires (fault_not_memory c.args.error is.0));
      has = refl;
      stands = tt;
    }
