use Rattle.std.proofs.Common.{◌≡◌, ◌++◌, [], ap, ◌∙◌, subst, arith, codes}
use Rattle.std.specs.Fmt.{decimal}
use Rattle.std.proofs.KnownBytes.{Appends-nil}
use Rattle.etp_outside.specs.declared.whole.Written.TheVariants.{Done}
use Rattle.etpctl.specs.Progress.{IsWritten, progress_line}
use Rattle.etpctl.proofs.progress.write_line.Goals as goal

pub returns : goal.returns
returns g c =
    let held = g.W.Sink.held c.args.errors.now in
    let faults = g.W.Sink.faults c.args.errors.now in
    let before : IsWritten Done [] held held faults faults = (Appends-nil held, omega arith) in
    let name = c.write_behind-name.ensures [] held faults before in
    let number = c.write_behind-number.ensures (codes "etpctl: ") held faults name in
    let all = c.write_behind.ensures (codes "etpctl: " ++ c.as_bytes.result.now) held faults number in
    let same : (codes "etpctl: " ++ c.as_bytes.result.now) ++ c.counted_text.result.now ≡ progress_line c.args.counted c.args.count =
    ap (λ t. (codes "etpctl: " ++ t) ++ c.counted_text.result.now) (c.as_bytes.ensures.value ∙ c.format.ensures.text)
    ∙ ap (λ t. (codes "etpctl: " ++ decimal c.args.count) ++ t) c.counted_text.ensures in
    subst (λ t. IsWritten c.write_behind.result t held (g.W.Sink.held c.write_behind.new.errors) faults (g.W.Sink.faults c.write_behind.new.errors)) same all
