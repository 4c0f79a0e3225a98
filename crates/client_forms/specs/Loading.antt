-- What the lines of an input load: their points, and the messages that take these.
use Rattle.std.specs.Prelude.{◌≡◌, ℕ, ℤ, ◌+◌, ◌||◌, ◌&&◌, Bool, true, false, List, [], ◌∷◌, ◌++◌, length, map, nat_lt, nat_le, if◌then◌else◌, Option, None, Some}
use Rattle.channel_points.specs.Bytes.{point_bytes}
use Rattle.etp_outside.specs.declared.status.Status.{Status}
use Rattle.etp_outside.specs.declared.status.Status.TheVariants as status
use Rattle.etp_values.specs.Weight.{weigh}
use Rattle.etp_values.specs.declared.point.ChannelPoint.{ChannelPoint}
use Rattle.etp_values.specs.declared.point.Point.{Point}
use Rattle.std.specs.List.{AllByRecursion}
use Rattle.point_lines.specs.Lines.{lines_in}
use Rattle.point_lines.specs.Points.{point_in}
use Rattle.point_lines.specs.Spelling.{IsPoint, lines_of}

-- the points of lines up to the first that is refused, if one is, and the status of its refusal
pub record Read : Type 0 where
  pub points : List Point
  pub refused : Option Status

-- a line that is a point, or none, before what is read of the lines after it; `n` is its number
abbrev pub with_line : ℕ → Option Point → Read → Read
with_line n None later = record { points = []; refused = Some (status.Input n) }
with_line n (Some p) later = record { points = p ∷ later.points; refused = later.refused }

-- what is read of lines for a channel of this kind, if the first has the number `n`
abbrev pub read_lines : ℕ → ℕ → List (List ℕ) → Read
read_lines kind n [] = record { points = []; refused = None }
read_lines kind n (l ∷ ls) =
    if nat_lt 65536 (length l) then record { points = []; refused = Some status.Limit }
    else with_line n (point_in kind l) (read_lines kind (n + 1) ls)

-- the lines that a range has of points are read as these points
abbrev pub RangesAreLoaded : Type 0
RangesAreLoaded = (kind : ℕ) (ps : List Point) (text : List ℕ) → AllByRecursion IsPoint ps → lines_of kind ps ≡ Some text → read_lines kind 1 (lines_in text) ≡ record { points = ps; refused = None }

-- one message takes at most 1,000 points, which count at most 8,388,608 bytes
abbrev pub fits : List Point → Bool
fits ps = nat_le (length ps) 1000 && nat_le (weigh point_bytes ps) 8388608

abbrev pub is_none : {A : Type 0} → List A → Bool
is_none [] = true
is_none (x ∷ xs) = false

-- the messages that were closed before a point that they could not take, and the one that is still open
pub record Filled : Type 0 where
  pub closed : List (List Point)
  pub last : List Point

abbrev pub closes_message : List Point → Filled → Filled
closes_message ps later = record { closed = ps ∷ later.closed; last = later.last }

-- how points are put into messages, if the open one has these
abbrev pub filled : List Point → List Point → Filled
filled held [] = record { closed = []; last = held }
filled held (p ∷ ps) =
    if is_none held || fits (held ++ p ∷ []) then filled (held ++ p ∷ []) ps
    else closes_message held (filled (p ∷ []) ps)

abbrev pub of_channel : ℤ → List Point → List ChannelPoint
of_channel channel ps = map (λ p. record { channel = channel; point = p }) ps
