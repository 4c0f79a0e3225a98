use Rattle.std.proofs.Common.{arith, Some, List, ℕ, length-take-le, ◌≡◌, ◌≤◌, ◌∙◌, length, take, drop, take_at}
use Rattle.etp_outside.proofs.ToldLemmas.{told_weaker}
use Rattle.etp_capture.specs.Frames.{length_in}
use Rattle.etp_capture.proofs.FoundLemmas.{body_limit, body_whole}
use Rattle.etp_capture.proofs.TakenLemmas.{told_unread, body_unread}
use Rattle.etp_capture.specs.Reader.{TakesUp}
use Rattle.etp_capture.proofs.reader.read_body.Goals as goal

pub returns-then-got-room-clause-bytes : goal.returns-then-got-room-clause-bytes
returns-then-got-room-clause-bytes g c =
    let size : length c.read_up.new.buf ≡ c.min-want.result = c.read_up.auto.buf ∙ c.as_mut_slice.ensures.len ∙ c.in-Ok.ensures.len in
    let most : c.in-Some.got ≤ length_in c.args.head.now = omega (arith, c.length_of-length.ensures, c.in-Some.ensures.within) in
    told_weaker _ _ _ _ (λ xs ys e. body_limit c.args.at c.in-Some.got c.args.head.now c.read_up.new.buf xs ys c.in-Some.ensures.within most (omega arith) e.0) c.in-Some.ensures.bytes

pub returns-in-Ok-from_vec-clause-bytes : goal.returns-in-Ok-from_vec-clause-bytes
returns-in-Ok-from_vec-clause-bytes g c =
    let size : length c.read_up.new.buf ≡ c.min-want.result = c.read_up.auto.buf ∙ c.as_mut_slice.ensures.len ∙ c.in-Ok.ensures.len in
    let stated : c.in-Some.got ≡ length_in c.args.head.now = omega (arith, c.length_of-length.ensures, c.in-Some.ensures.within) in
    let body = c.in-Ok-from_vec.ensures ∙ take_at c.read_up.new.buf (drop (length c.read_up.new.buf) c.in-Ok.bytes.items) c.in-Ok.bytes.len (c.read_up.auto.buf ∙ c.as_mut_slice.ensures.len) in
    told_weaker _ _ _ _ (λ xs ys e. body_whole c.args.at c.in-Some.got c.args.head.now c.read_up.new.buf c.in-Ok-from_vec.body xs ys (omega (arith, c.in-Some.ensures.within)) stated (omega arith) body e.0) c.in-Some.ensures.bytes

pub returns-in_default-clause-bytes : goal.returns-in_default-clause-bytes
returns-in_default-clause-bytes g c = told_unread (g.S.Source.left c.args.source.now) c.args.at c.args.head.now

pub returns-in-Err-clause-bytes : goal.returns-in-Err-clause-bytes
returns-in-Err-clause-bytes g c =
    let buf = c.read_up.new.buf in
    let got = c.in-Some.got in
    let size : length buf ≡ c.min-want.result = c.read_up.auto.buf ∙ c.as_mut_slice.ensures.len ∙ c.in-Ok.ensures.len in
    let most : length (take got buf) ≤ length_in c.args.head.now = rw (length-take-le got buf c.in-Some.ensures.within) (omega (arith, c.length_of-length.ensures, c.in-Some.ensures.within)) in
    told_weaker _ _ _ _ (λ (xs ys : List ℕ) (e : TakesUp (Some got) buf xs ys). body_unread c.args.at c.args.head.now (take got buf) xs ys most e.0) c.in-Some.ensures.bytes
