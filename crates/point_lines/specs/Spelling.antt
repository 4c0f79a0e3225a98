-- The lines in which points are written, so that they are read again as the same points.
use Rattle.std.specs.Prelude.{◌≡◌, ◌<◌, ◌≤◌, ◌^◌, ◌+◌, ◌/◌, ◌%◌, ◌==◌, ◌&&◌, ℕ, ℤ, zero, suc, Bool, true, false, not, nat_le, nat_lt, List, [], ◌∷◌, ◌++◌, length, codes, if◌then◌else◌, FitsSigned, Option, None, Some, is_some}
use Rattle.std.specs.Fmt.{signed_decimal}
use Rattle.std.specs.Int.{w32, w64}
use Rattle.std.specs.List.{AllByRecursion}
use Rattle.std.specs.Str.{IsUtf8}
use Rattle.etp_values.specs.Uri.{parted}
use Rattle.etp_values.specs.declared.point.Point.{Point}
use Rattle.etp_values.specs.declared.data.DataValue.{DataValue}
use Rattle.etp_values.specs.declared.data.DataValue.TheVariants.{Boolean, Int, Long, Float, Double, String, Bytes}
use Rattle.point_lines.specs.Lines.{lines_in}
use Rattle.point_lines.specs.Points.{point_in}

-- the capital hexadecimal digit of a number below 16
abbrev pub hex_digit : ℕ → ℕ
hex_digit n = if nat_lt n 10 then 48 + n else 55 + n

-- the last digits of a number, as many as `count`
abbrev pub hex_text : ℕ → ℕ → List ℕ
hex_text zero n = []
hex_text (suc count) n = hex_text count (n / 16) ++ hex_digit (n % 16) ∷ []

-- the digits of bytes, two of each
abbrev pub bytes_text : List ℕ → List ℕ
bytes_text [] = []
bytes_text (b ∷ bs) = hex_digit (b / 16) ∷ hex_digit (b % 16) ∷ bytes_text bs

abbrev pub truth_text : Bool → List ℕ
truth_text true = codes "true"
truth_text false = codes "false"

-- a channel of this kind has such values, and lines denote them
abbrev pub is_of_kind : ℕ → DataValue → Bool
is_of_kind kind (Boolean b) = kind == 5
is_of_kind kind (Int z) = kind == 6
is_of_kind kind (Long z) = kind == 7
is_of_kind kind (Float n) = kind == 8
is_of_kind kind (Double n) = kind == 9
is_of_kind kind (String t) = kind == 10
is_of_kind kind (Bytes bs) = kind == 11
is_of_kind kind other = false

-- the text of such a value
abbrev pub text_of : DataValue → List ℕ
text_of (Boolean b) = truth_text b
text_of (Int z) = signed_decimal z
text_of (Long z) = signed_decimal z
text_of (Float n) = hex_text 8 n.0
text_of (Double n) = hex_text 16 n.0
text_of (String t) = t
text_of (Bytes bs) = bytes_text bs
text_of other = []

-- bytes that a reader of lines takes as one line: no line feed is among them, and they are not too many
abbrev pub is_line : List ℕ → Bool
is_line bytes = not (is_some (parted 10 bytes)) && nat_le (length bytes) 65536

abbrev pub if_line : List ℕ → Option (List ℕ)
if_line bytes = if is_line bytes then Some bytes else None

-- a point's index and value
abbrev pub point_text : Point → List ℕ
point_text p = signed_decimal p.index ++ 32 ∷ text_of p.value

-- the line of a point of a channel of this kind, if a line can denote the point
abbrev pub line_of : ℕ → Point → Option (List ℕ)
line_of kind p = if is_of_kind kind p.value then if_line (point_text p) else None

-- lines one after another, each with its line feed, if all points have one
abbrev pub with_line : Option (List ℕ) → Option (List ℕ) → Option (List ℕ)
with_line None later = None
with_line (Some line) None = None
with_line (Some line) (Some later) = Some (line ++ 10 ∷ later)

abbrev pub lines_of : ℕ → List Point → Option (List ℕ)
lines_of kind [] = Some []
lines_of kind (p ∷ ps) = with_line (line_of kind p) (lines_of kind ps)

-- ---- the laws

-- a value that its type can hold
abbrev pub IsValue : DataValue → Type 0
IsValue (Int z) = FitsSigned w32 z
IsValue (Long z) = FitsSigned w64 z
IsValue (Float n) = n.0 < 2 ^ 32
IsValue (Double n) = n.0 < 2 ^ 64
IsValue (String t) = IsUtf8 t
IsValue (Bytes bs) = AllByRecursion (λ b. b < 256) bs
IsValue other = Unit {0}

abbrev pub IsPoint : Point → Type 0
IsPoint p = FitsSigned w64 p.index × IsValue p.value

-- the line of a point denotes the point
abbrev pub LinesAreRead : Type 0
LinesAreRead = (kind : ℕ) (p : Point) (line : List ℕ) → IsPoint p → line_of kind p ≡ Some line → point_in kind line ≡ Some p

-- the lines of points are these, one by one, each of them denotes its point, and a reader of lines takes it
abbrev pub Denote : ℕ → List (List ℕ) → List Point → Type 0
Denote kind [] [] = Unit {0}
Denote kind (l ∷ ls) (p ∷ ps) = (length l ≤ 65536) × (point_in kind l ≡ Some p) × Denote kind ls ps
Denote kind ls ps = ⊥

abbrev pub LinesStand : Type 0
LinesStand = (kind : ℕ) (ps : List Point) (text : List ℕ) → AllByRecursion IsPoint ps → lines_of kind ps ≡ Some text → Denote kind (lines_in text) ps
