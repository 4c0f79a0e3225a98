use Rattle.std.proofs.Common.{◌≡◌, ◌<◌, ◌∙◌, ◌++◌, arith, ap, sym, length, take, take_all}
use Rattle.etp_outside.proofs.ToldLemmas.{told_weaker}
use Rattle.etp_capture.proofs.MagicLemmas.{short_starts, other_starts}
use Rattle.std.specs.Str.{bytes_eq}
use Rattle.std.proofs.lemmas.Bool.{not-true}
use Rattle.etp_capture.specs.Frames.{magic}
use Rattle.etp_capture.proofs.reader.read_magic.Goals as goal

pub returns-then-got-lt-MAGIC_LEN-clause-bytes : goal.returns-then-got-lt-MAGIC_LEN-clause-bytes
returns-then-got-lt-MAGIC_LEN-clause-bytes g c =
    let short : c.in-Some.got < length c.read_up.new.buf = omega (arith, c.read_up.auto.buf) in
    told_weaker _ _ _ _ (λ xs ys e. short_starts c.in-Some.got c.read_up.new.buf xs ys c.in-Some.ensures.within c.if-got-lt-MAGIC_LEN.true e.0 (e.1 short)) c.in-Some.ensures.bytes

pub returns-then-ne-clause-bytes : goal.returns-then-ne-clause-bytes
returns-then-ne-clause-bytes g c =
    let buf = c.read_up.new.buf in
    let long : length buf ≡ 8 = omega (arith, c.read_up.auto.buf) in
    let whole : take c.in-Some.got buf ≡ buf = take_all c.in-Some.got buf (omega arith) in
    let other = not-true (bytes_eq buf magic) (sym c.ne.ensures ∙ c.if-ne.true) in
    told_weaker _ _ _ _ (λ xs ys e. other_starts buf xs ys long (e.0 ∙ ap (λ l. l ++ ys) whole) other) c.in-Some.ensures.bytes
