-- Identifiers of RFC 9562.
use Rattle.std.specs.Prelude.{ℕ, ◌+◌, ◌%◌, List, ◌++◌, take, slice_index, slice_set}
use Rattle.sha1.specs.Sha1.{sha1}

-- sixteen bytes with the version 5 in the upper half of byte 6, and the variant of RFC 9562 in the upper two bits of byte 8
abbrev pub marked5 : List ℕ → List ℕ
marked5 b = slice_set (slice_set b 8 (slice_index b 8 % 64 + 128)) 6 (slice_index b 6 % 16 + 80)

-- the identifier of version 5: the first sixteen bytes of the SHA-1 of the name space and the name, marked
abbrev pub version5 : List ℕ → List ℕ → List ℕ
version5 space name = marked5 (take 16 (sha1 (space ++ name)))
