-- The hyphenated text of an identifier (RFC 9562, section 4).
use Rattle.std.specs.Prelude.{ℕ, List, Option, length, All, ◌≡◌, ◌<◌}
use Rattle.uuid.specs.Text.{parsed_hyphenated, hyphenated_text, lower}

-- the bytes of an identifier
pub record IsId (id : List ℕ) : Type 0 where
  pub long : length id ≡ 16
  pub small : All (λ b. b < 256) id

-- the identifier that a text of 8-4-4-4-12 hexadecimal digits denotes, the digits in either case
unfoldable pub id_of : List ℕ → Option (List ℕ)
id_of text = parsed_hyphenated text

-- the text of an identifier, its digits in lower case
unfoldable pub id_text : List ℕ → List ℕ
id_text id = hyphenated_text lower id
