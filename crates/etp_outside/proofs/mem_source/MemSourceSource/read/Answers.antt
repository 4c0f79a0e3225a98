use Rattle.std.proofs.Common.{◌≤◌, ◌+◌, ◌∙◌, arith, drop, length, slice_range, ap, sym}
use Rattle.etp_outside.specs.Input.{Input}
use Rattle.etp_outside.proofs.PartLemmas.{read_part}
use Rattle.etp_outside.proofs.mem_source.MemSourceSource.read.Goals as goal

pub returns-clause-bytes : goal.returns-clause-bytes
returns-clause-bytes c =
    let at = c.self.inside.at in
    let count = c.min-count.result in
    let same = c.as_bytes-bytes.ensures in
    let fits : at + count ≤ length c.self.inside.bytes = omega (arith, ap length same) in
    ap (λ (s : Input). s.left) (sym c.self.view_is)
    ∙ read_part at count c.self.inside.bytes c.copy_from_slice.new.self (drop count c.args.buf.now) fits
    (c.copy_from_slice.ensures.after ∙ ap (λ bs. slice_range bs at (at + count)) same)
