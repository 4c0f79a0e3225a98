-- Texts in pieces: UTF-8 by the syntax of RFC 3629, section 4, octet by octet.
use Rattle.std.specs.Prelude.{ℕ, Bool, true, false, ◌==◌, if◌then◌else◌, List, [], ◌∷◌, Option, None, Some}
use Rattle.std.specs.Option.{option_and_then}
use Rattle.std.specs.Int.{is_in_range}
use Rattle.web_frames.specs.declared.utf8.Utf8.{Utf8}
use Rattle.web_frames.specs.declared.utf8.Utf8.TheVariants.{Whole, One, Two, Three, AfterE0, AfterEd, AfterF0, AfterF4}

-- what the first octet of a character asks for
abbrev pub after_first : ℕ → Option Utf8
after_first b =
    if is_in_range 0x00 0x7F b then Some Whole else
    (if is_in_range 0xC2 0xDF b then Some One else
    (if b == 0xE0 then Some AfterE0 else
    (if b == 0xED then Some AfterEd else
    (if is_in_range 0xE1 0xEF b then Some Two else
    (if b == 0xF0 then Some AfterF0 else
    (if is_in_range 0xF1 0xF3 b then Some Three else
    (if b == 0xF4 then Some AfterF4 else None)))))))

-- one more octet: what is still asked for after it, or none if it is not valid there
abbrev pub after_byte : Utf8 → ℕ → Option Utf8
after_byte Whole b = after_first b
after_byte One b = if is_in_range 0x80 0xBF b then Some Whole else None
after_byte Two b = if is_in_range 0x80 0xBF b then Some One else None
after_byte Three b = if is_in_range 0x80 0xBF b then Some Two else None
after_byte AfterE0 b = if is_in_range 0xA0 0xBF b then Some One else None
after_byte AfterEd b = if is_in_range 0x80 0x9F b then Some One else None
after_byte AfterF0 b = if is_in_range 0x90 0xBF b then Some Two else None
after_byte AfterF4 b = if is_in_range 0x80 0x8F b then Some Two else None

-- the same over octets, where those before them were valid
unfoldable pub after_bytes : Option Utf8 → List ℕ → Option Utf8
after_bytes u [] = u
after_bytes u (b ∷ bs) = after_bytes (option_and_then (λ v. after_byte v b) u) bs

-- no octet is asked for: the octets so far are whole characters
abbrev pub is_whole : Utf8 → Bool
is_whole Whole = true
is_whole One = false
is_whole Two = false
is_whole Three = false
is_whole AfterE0 = false
is_whole AfterEd = false
is_whole AfterF0 = false
is_whole AfterF4 = false
