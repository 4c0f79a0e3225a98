-- A message that comes in pieces (RFC 6455, section 5.4).
use Rattle.std.specs.Prelude.{◌≡◌, ℕ, ◌+◌, ◌^◌, Bool, if◌then◌else◌, nat_lt, nat_le, List, [], ◌++◌, length, replicate, ⊤, Option, None, Some, Result, Ok, Err}
use Rattle.web_frames.specs.declared.arrival.Arrival.{Arrival}
use Rattle.web_frames.specs.declared.arrival.Arrival.TheVariants as arrival
use Rattle.web_frames.specs.declared.breach.Breach.{Breach}
use Rattle.web_frames.specs.declared.breach.Breach.TheVariants as breach
use Rattle.web_frames.specs.declared.coming.Coming.{Coming}
use Rattle.web_frames.specs.declared.coming.Kind.{Kind}
use Rattle.web_frames.specs.declared.coming.Kind.TheVariants.{Binary, Text}
use Rattle.web_frames.specs.declared.coming.Unadded.{Unadded}
use Rattle.web_frames.specs.declared.coming.Unadded.TheVariants as unadded
use Rattle.web_frames.specs.declared.utf8.Utf8.{Utf8}
use Rattle.web_frames.specs.declared.utf8.Utf8.TheVariants.{Whole}
use Rattle.web_frames.specs.Utf8.{after_bytes, is_whole}

-- what is kept of a message of which not everything has come: how many bytes have come, those of a binary message while it is short, and
-- which octets the last character of a text still needs
pub record Open : Type 0 where
  pub kind : Kind
  pub count : ℕ
  pub bytes : List ℕ
  pub text : Utf8

-- of a message of which nothing has come
abbrev pub opened : Kind → Open
opened kind = record { kind = kind; count = 0; bytes = []; text = Whole }

-- whether a message of this many bytes is handed on as it is
abbrev pub is_short : ℕ → Bool
is_short count = nat_le count 16777216

-- the bytes that are kept of a message of which this many have come with the piece
abbrev pub kept : ℕ → List ℕ → List ℕ → List ℕ
kept count before piece = if is_short count then before ++ piece else []

abbrev pub with_text : Open → ℕ → Option Utf8 → Result Open Breach
with_text o count None = Err breach.Utf8
with_text o count (Some u) = Ok (record { kind = Text; count = count; bytes = o.bytes; text = u })

abbrev pub with_piece : Kind → Open → ℕ → List ℕ → Result Open Breach
with_piece Binary o count piece = Ok (record { kind = Binary; count = count; bytes = kept count o.bytes piece; text = o.text })
with_piece Text o count piece = with_text o count (after_bytes (Some o.text) piece)

-- one more piece of the payload: a text is refused at its first octet that is not valid (close code 1007), and a message whose bytes can't be
-- counted as too long (1009)
unfoldable pub added : Open → List ℕ → Result Open Breach
added o piece = if nat_lt (o.count + length piece) (2 ^ 64) then with_piece o.kind o (o.count + length piece) piece else Err breach.TooLong

unfoldable pub zeros : ℕ → List ℕ
zeros n = replicate n 0

-- what stands for a message that is longer than 16,777,216 bytes: one byte more than that, all zero
abbrev pub too_long : List ℕ
too_long = zeros 16777217

abbrev pub handed_on : Kind → Bool → List ℕ → Utf8 → Result (List ℕ) Breach
handed_on Binary short bytes text = if short then Ok bytes else Ok too_long
handed_on Text short bytes text = if is_whole text then Ok [] else Err breach.Utf8

-- what is handed on for a complete message: a binary one as it is, a text as no bytes if its last character is complete (1007)
abbrev pub finished : Open → Result (List ℕ) Breach
finished o = handed_on o.kind (is_short o.count) o.bytes o.text

-- ---- how the values of the code show this

abbrev pub shown : Coming → Open
shown c = record { kind = c.kind; count = c.count; bytes = c.bytes.items; text = c.utf8 }

-- a piece was added, or refused, as expected, unless memory ran out
abbrev pub Adds : Result Open Breach → Result (Unit {0}) Unadded → Open → Type 0
Adds expected (Ok _) new = expected ≡ Ok new
Adds expected (Err (unadded.Breach b)) new = expected ≡ Err b
Adds expected (Err unadded.NoMemory) new = ⊤

-- the message is handed on, or refused, as expected, unless memory ran out
abbrev pub HandsOn : Result (List ℕ) Breach → Arrival → Type 0
HandsOn expected (arrival.Message m) = expected ≡ Ok m
HandsOn expected (arrival.Breach b) = expected ≡ Err b
HandsOn expected arrival.NoMemory = ⊤
HandsOn expected arrival.Frame = ⊥
HandsOn expected arrival.Nothing = ⊥
HandsOn expected arrival.End = ⊥
