-- What `clap` finds in words without options: all of them, in their order.
use Rattle.std.proofs.Common.{◌≡◌, List, [], ◌∷◌, true, false, refl, ap, ◌∙◌}
use Rattle.clap.specs.Walk.{Row, Text, Walk, finished}
use Rattle.clap.specs.Simple.{App, is_simple, matches_of}
use Rattle.command_words.specs.Words.{has_option}
use Rattle.command_words.specs.Command.{word_app, word_values}
use Rattle.command_words.proofs.WalkLemmas.{top, whole_walk}

some_found : (w : Text) (words : List Text) → has_option (w ∷ words) ≡ false → word_values (matches_of word_app (w ∷ words)) ≡ w ∷ words
some_found w words plain = ap (λ (end : Walk). word_values (finished top.rules end.held)) (whole_walk w words plain)

none_found : word_values (matches_of word_app []) ≡ []
none_found = refl

found : (words : List Text) → has_option words ≡ false → word_values (matches_of word_app words) ≡ words
found [] plain = none_found
found (w ∷ words) plain = some_found w words plain

-- the same for what `clap` says of its matches for this command
pub read : {X : Type 0} (app : App) (words : List Text) (rows : List Row) → app ≡ word_app → has_option words ≡ false
    → (is_simple app ≡ true → (rows ≡ matches_of app words) × X) → word_values rows ≡ words
read app words rows same plain gives =
    ap word_values ((gives (ap is_simple same)).0 ∙ ap (λ (a : App). matches_of a words) same) ∙ found words plain
