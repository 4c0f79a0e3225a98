-- Which numbers are ints and places, and which bytes are texts.
use Rattle.std.specs.Prelude.{Bool, ℕ, suc, ◌^◌, ℤ, pos, negsuc, List, length, nat_lt, min, ◌==◌}
use Rattle.std.specs.Str.Lossy.{utf8_valid_len}
use Rattle.avro_bin.specs.Schema.{Schemas, none, more}

-- whether a number is an int
abbrev pub fits_32 : ℤ → Bool
fits_32 (pos n) = nat_lt n (2 ^ 31)
fits_32 (negsuc n) = nat_lt n (2 ^ 31)

-- whether bytes are UTF-8
abbrev pub is_utf8 : List ℕ → Bool
is_utf8 b = utf8_valid_len b == length b

-- how many of this number of symbols or branches an int can name
abbrev pub places : ℕ → ℕ
places count = min count (2 ^ 31)

-- how many schemas there are
abbrev pub count : Schemas → ℕ
count none = 0
count (more s ss) = suc (count ss)
