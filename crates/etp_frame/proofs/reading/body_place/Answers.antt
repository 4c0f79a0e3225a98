use Rattle.std.proofs.Common.{FitsSigned, w32, rules}
use Rattle.std.proofs.lemmas.Int.{to_z-of_z}
use Rattle.etp_frame.proofs.reading.body_place.Goals as goal

pub returns : goal.returns
returns c =
    let h = c.args.header.now in
    let p : FitsSigned w32 h.protocol = search rules in
    let k : FitsSigned w32 h.kind = search rules in
    rw (to_z-of_z w32 h.protocol p, to_z-of_z w32 h.kind k) at c.body_of.ensures
