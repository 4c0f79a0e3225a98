use Rattle.std.proofs.Common.{arith, sym}
use Rattle.std.proofs.lemmas.List.{length-take-le}
use Rattle.check_ctl.proofs.shows.digits_of.Goals as goal

pub slice_bounds-encode_upper-end : goal.slice_bounds-encode_upper-end
slice_bounds-encode_upper-end c = sym (length-take-le 600 c.args.bytes.now (omega (arith, c.if-bytes-le-SHOWN.false)))
