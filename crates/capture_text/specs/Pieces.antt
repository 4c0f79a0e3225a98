-- How bytes and texts are shown.
use Rattle.std.specs.Prelude.{ℕ, zero, suc, ◌+◌, ◌/◌, ◌%◌, ◌==◌, ◌&&◌, not, nat_le, nat_lt, Bool, List, [], ◌∷◌, ◌++◌, codes, if◌then◌else◌}

-- the upper-case hexadecimal digit of a number below 16
abbrev pub hex_digit : ℕ → ℕ
hex_digit n = if nat_lt n 10 then 48 + n else 55 + n

-- the two digits of a byte
abbrev pub hex_byte : ℕ → List ℕ
hex_byte b = hex_digit (b / 16) ∷ hex_digit (b % 16) ∷ []

-- the digits of bytes
abbrev pub hex : List ℕ → List ℕ
hex [] = []
hex (b ∷ bs) = hex_byte b ++ hex bs

-- whether a byte of a text is shown as itself: a visible one or a space, but neither a quotation mark nor a backslash
abbrev pub is_shown : ℕ → Bool
is_shown b = nat_le 32 b && nat_le b 126 && not (b == 34) && not (b == 92)

-- a byte of a text: itself, or a backslash, an x and its two digits
abbrev pub shown_byte : ℕ → List ℕ
shown_byte b = if is_shown b then b ∷ [] else 92 ∷ 120 ∷ hex_byte b

-- the bytes of a text
abbrev pub escaped : List ℕ → List ℕ
escaped [] = []
escaped (b ∷ bs) = shown_byte b ++ escaped bs

-- a text between quotation marks
abbrev pub quoted : List ℕ → List ℕ
quoted text = 34 ∷ (escaped text ++ 34 ∷ [])

-- what comes before an item: nothing before the first, a comma and a space before each other one
abbrev pub separator : ℕ → List ℕ
separator zero = []
separator (suc i) = codes ", "
