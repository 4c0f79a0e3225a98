-- What is said of the pieces of a message is said of the whole.
use Rattle.std.proofs.Common.{◌≡◌, ◌<◌, List, ℕ, [], ◌++◌, Result, Ok, Err, length, refl, sym, ap, subst, ◌∙◌, append-nil}
use Rattle.std.specs.Prelude.{IfOk}
use Rattle.std.proofs.lemmas.List.{append_assoc}
use Rattle.avro_bin.specs.Laws.{IsBytes}
use Rattle.etp_schema.specs.declared.body.Side.{Side}
use Rattle.etp_frame.specs.Reading.{read_of, tree_of}
use Rattle.etp_frame.specs.Pieces.{Hearing, Fed, WasFed, said}
use Rattle.etp_frame.specs.declared.error.FrameError.{FrameError}
use Rattle.etp_frame.specs.declared.stage.Reading.{Reading}
use Rattle.etp_frame.specs.declared.stage.Reading.TheVariants as p
use Rattle.etp_frame.proofs.FeedingLemmas.{no_bytes, said_refused, said_whole, refused_stays_is, tree_read}
use Rattle.etp_frame.proofs.ReadingLemmas.{refused_alike}
use Rattle.capture_text.specs.Feeding.{IsFed, IsRight, HasSaid, IsCause, ChecksBytes}

-- a reader that was fed nothing
pub begun : (side : Side) (whole : List ℕ) (reader : Hearing) → reader ≡ record { sender = side; heard = Fed [] } → HasSaid side whole whole reader p.More
begun side whole reader is = record {
  before = record {
    front = [];
    parts = refl;
    sent = ap (λ (r : Hearing). r.sender) is;
    fed = subst (λ (r : Hearing). WasFed r []) (sym is) (no_bytes, refl);
  };
  right = λ h. absurd (let no : p.More ≡ p.Whole = h in cc);
}

pub regrouped : (whole front bytes piece left : List ℕ) → whole ≡ front ++ bytes → bytes ≡ piece ++ left → whole ≡ (front ++ piece) ++ left
regrouped whole front bytes piece left parts cut = parts ∙ ap (λ (b : List ℕ). front ++ b) cut ∙ sym (append_assoc front piece left)

-- one more piece
pub goes_on : (side : Side) (whole bytes piece left : List ℕ) (old new : Hearing) (answer : Reading) (fed : IsFed side whole bytes old) → bytes ≡ piece ++ left → new.sender ≡ old.sender
    → answer ≡ said (read_of old.sender (fed.front ++ piece)) → WasFed new (fed.front ++ piece) → HasSaid side whole left new answer
goes_on side whole bytes piece left old new answer fed cut same says was = record {
  before = record { front = fed.front ++ piece; parts = regrouped whole fed.front bytes piece left fed.parts cut; sent = same ∙ fed.sent; fed = was };
  right = λ h. sym h ∙ says ∙ ap (λ (s : Side). said (read_of s (fed.front ++ piece))) fed.sent;
}

-- the same under other names
pub moved : (side : Side) (whole left rest : List ℕ) (reader other : Hearing) (answer same : Reading) → HasSaid side whole left reader answer → other ≡ reader → same ≡ answer → rest ≡ left → HasSaid side whole rest other same
moved side whole left rest reader other answer same h r a l = rw (r, a, l) h

-- what is answered of a piece, with what is left in a form of its own
pub says_left : {L : Type 0} (r : Result (Hearing × Reading × L) FrameError) (now : L → List ℕ) (side : Side) (whole left : List ℕ) (reader : Hearing) (answer : Reading) → HasSaid side whole left reader answer
    → IfOk r (λ x. (x.0 ≡ reader) × (x.1 ≡ answer) × (now x.2 ≡ left)) → IfOk r (λ x. HasSaid side whole (now x.2) x.0 x.1)
says_left (Ok x) now side whole left reader answer said is = moved side whole left (now x.2) reader x.0 answer x.1 said is.0 is.1 is.2
says_left (Err e) now side whole left reader answer said is = tt

pub less_left : {L : Type 0} (r : Result (Hearing × Reading × L) FrameError) (now : L → List ℕ) (bytes left : List ℕ) (reader : Hearing) (answer : Reading) → length left < length bytes
    → IfOk r (λ x. (x.0 ≡ reader) × (x.1 ≡ answer) × (now x.2 ≡ left)) → IfOk r (λ x. length (now x.2) < length bytes)
less_left (Ok x) now bytes left reader answer less is = rw is.2 less
less_left (Err e) now bytes left reader answer less is = tt

-- a piece that is refused
pub refuses_whole : (side : Side) (whole bytes piece left : List ℕ) (old : Hearing) (e : FrameError) (fed : IsFed side whole bytes old) → IsBytes whole → bytes ≡ piece ++ left
    → p.Refused e ≡ said (read_of old.sender (fed.front ++ piece)) → read_of side whole ≡ Err e
refuses_whole side whole bytes piece left old e fed fits cut says =
    let parts = regrouped whole fed.front bytes piece left fed.parts cut in
    let here = said_refused (read_of side (fed.front ++ piece)) e (says ∙ ap (λ (s : Side). said (read_of s (fed.front ++ piece))) fed.sent) in
    ap (read_of side) parts ∙ refused_stays_is side (fed.front ++ piece) left e (subst IsBytes parts fits) here.1 here.0

-- nothing is left
pub says_all : (side : Side) (whole left : List ℕ) (reader : Hearing) (answer : Reading) → HasSaid side whole left reader answer → left ≡ [] → IsRight side whole answer
says_all side whole left reader answer h none =
    let all : whole ≡ h.before.front = h.before.parts ∙ ap (λ (b : List ℕ). h.before.front ++ b) none ∙ append-nil h.before.front in
    subst (λ (b : List ℕ). IsRight side b answer) (sym all) h.right

pub checks_whole : (side : Side) (bytes : List ℕ) → p.Whole ≡ said (read_of side bytes) → ChecksBytes (tree_of side bytes) (Ok tt)
checks_whole side bytes h = let w = said_whole (read_of side bytes) h in tree_read side bytes w.0 w.1

pub checks_cause : (side : Side) (bytes : List ℕ) (e : FrameError) → IsCause (read_of side bytes) e → ChecksBytes (tree_of side bytes) (Err e)
checks_cause side bytes e h other = (refused_alike side bytes e).0 (h other)
