use Rattle.std.proofs.Common.{arith, ◌≡◌, ℕ, ◌++◌, get_or, take, drop, ap, sym, ◌∙◌, subst}
use Rattle.etp_capture.specs.Frames.{is_length}
use Rattle.etp_capture.specs.Found.{found, body_found}
use Rattle.etp_capture.proofs.FoundLemmas.{front_kind, front_limit, front_cut, front_length, front_body}
use Rattle.etp_capture.proofs.head.head_fault.Goals as goal

pub returns-then-not-is_kind-clause-bytes : goal.returns-then-not-is_kind-clause-bytes
returns-then-not-is_kind-clause-bytes c = λ rest end.
    front_kind c.args.head.now c.args.got c.args.at rest c.requires.some c.told-head (omega arith) (sym c.is_kind.ensures ∙ c.if-not-is_kind.true)

pub returns-then-at-got-gt-CAPTURE_LIMIT-clause-bytes : goal.returns-then-at-got-gt-CAPTURE_LIMIT-clause-bytes
returns-then-at-got-gt-CAPTURE_LIMIT-clause-bytes c = λ rest end.
    front_limit c.args.head.now c.args.got c.args.at rest c.requires.some c.requires.most c.told-head (omega arith) (omega arith) (sym c.is_kind.ensures ∙ c.if-not-is_kind.false)

pub returns-then-got-lt-HEAD_LEN-clause-bytes : goal.returns-then-got-lt-HEAD_LEN-clause-bytes
returns-then-got-lt-HEAD_LEN-clause-bytes c = λ rest end.
    front_cut c.args.head.now c.args.got c.args.at rest c.requires.some c.if-got-lt-HEAD_LEN.true c.told-head (omega arith)
    (end (omega arith) c.if-got-lt-HEAD_LEN.true) (sym c.is_kind.ensures ∙ c.if-not-is_kind.false)

pub returns-then-not-is_length-clause-bytes : goal.returns-then-not-is_length-clause-bytes
returns-then-not-is_length-clause-bytes c = λ rest end.
    let all : c.args.got ≡ 17 = omega arith in
    let hs = c.args.head.now in
    let bad = ap (is_length (get_or hs 0 0)) (sym c.length_of.ensures) ∙ sym c.is_length.ensures ∙ c.if-not-is_length.true in
    ap (λ n. found c.args.at (take n hs ++ rest)) all
    ∙ front_length hs c.args.at rest c.told-head (omega arith) (sym c.is_kind.ensures ∙ c.if-not-is_kind.false) bad

pub returns-clause-bytes : goal.returns-clause-bytes
returns-clause-bytes c = λ rest end.
    let all : c.args.got ≡ 17 = omega arith in
    let hs = c.args.head.now in
    let good = ap (is_length (get_or hs 0 0)) (sym c.length_of.ensures) ∙ sym c.is_length.ensures ∙ c.if-not-is_length.false in
    let P : ℕ → Type 0 = λ n. found c.args.at (take n hs ++ rest) ≡ body_found c.args.at (take 17 (take n hs ++ rest)) (drop 17 (take n hs ++ rest)) in
    subst P (sym all) (front_body hs c.args.at rest c.told-head (omega arith) (sym c.is_kind.ensures ∙ c.if-not-is_kind.false) good)

pub returns-clause-head : goal.returns-clause-head
returns-clause-head c =
    let hs = c.args.head.now in
    record {
      long = c.told-head;
      kind = sym c.is_kind.ensures ∙ c.if-not-is_kind.false;
      payload = ap (is_length (get_or hs 0 0)) (sym c.length_of.ensures) ∙ sym c.is_length.ensures ∙ c.if-not-is_length.false;
    }
