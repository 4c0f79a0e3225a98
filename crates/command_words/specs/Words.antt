-- The words of a command line, as their bytes.
use Rattle.std.specs.Prelude.{ℕ, List, [], ◌∷◌, ◌==◌, Bool, false, Option, None, Some, if◌then◌else◌}
use Rattle.std.specs.List.{list_any}

-- a word that begins with a hyphen
abbrev pub is_option : List ℕ → Bool
is_option [] = false
is_option (b ∷ bs) = b == 45

-- one of the words is an option
abbrev pub has_option : List (List ℕ) → Bool
has_option words = list_any is_option words

-- the words, unless one of them is an option
abbrev pub plain_words : List (List ℕ) → Option (List (List ℕ))
plain_words words = if has_option words then None else Some words
