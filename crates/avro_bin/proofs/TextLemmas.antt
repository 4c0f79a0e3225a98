-- Which bytes are a text.
use Rattle.std.proofs.Common.{◌≡◌, ℕ, ◌<◌, ◌^◌, true, List, length, arith}
use Rattle.avro_bin.specs.Shape.{IsText}
use Rattle.std.specs.Str.{IsUtf8}
use Rattle.std.proofs.lemmas.Str.{utf8_valid_len-IsUtf8}
use Rattle.std.proofs.lemmas.Bool.Decides.{nat_tests}
use Rattle.avro_bin.specs.Reading.{is_utf8}

pub valid_is : (b : List ℕ) → IsUtf8 b → is_utf8 b ≡ true
valid_is b h = rw (utf8_valid_len-IsUtf8 b h) (grind (arith, nat_tests))

pub text_is : (b : List ℕ) → IsUtf8 b → length b < 2 ^ 63 → IsText b
text_is b h small = (valid_is b h, small)
