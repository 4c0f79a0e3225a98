-- Where `clap`'s walk over words without options leads: all of them are kept for the one argument.
use Rattle.std.proofs.Common.{◌≡◌, List, [], ◌∷◌, ◌++◌, fold, Some, None, false, ◌==◌, codes, refl, append_assoc, append-nil}
use Rattle.std.proofs.lemmas.Bool.{or_parts}
use Rattle.clap.specs.Walk.{Text, Walk, positional, nothing_held, walk, walk_from, walked}
use Rattle.clap.specs.Simple.{Shape, built}
use Rattle.command_words.specs.Words.{is_option, has_option}
use Rattle.command_words.specs.Command.{word_app}

-- the command as it is built, which numbers its positions
abbrev pub top : Shape
top = (built word_app).top

-- the walk after these words, of which there is at least one
abbrev pub at : List Text → Walk
at words = record {
  held = record { rows = []; pending = Some (codes "word", words); skip = 0 };
  waiting = positional;
  position = 1;
  is_trailing = false;
  stopped = None;
}

pub first_step : (w : Text) → is_option w ≡ false → walked top.rules [] (walk_from nothing_held) w ≡ at (w ∷ [])
unfolding walked
first_step [] plain = refl
first_step (b ∷ bs) plain = let no_hyphen : (b == 45) ≡ false = plain in rw (no_hyphen, no_hyphen)

pub next_step : (before : List Text) (w : Text) → is_option w ≡ false → walked top.rules [] (at before) w ≡ at (before ++ w ∷ [])
unfolding walked
next_step before [] plain = refl
next_step before (b ∷ bs) plain = let no_hyphen : (b == 45) ≡ false = plain in rw (no_hyphen, no_hyphen)

walk_on : (before words : List Text) → has_option words ≡ false → fold (walked top.rules []) (at before) words ≡ at (before ++ words)
walk_on before [] plain = rw append-nil
walk_on before (w ∷ words) plain =
    let (here, more) = or_parts (is_option w) (has_option words) plain in
    rw (next_step before w here, walk_on (before ++ w ∷ []) words more, append_assoc)

pub whole_walk : (w : Text) (words : List Text) → has_option (w ∷ words) ≡ false → walk top.rules [] nothing_held (w ∷ words) ≡ at (w ∷ words)
whole_walk w words plain =
    let (here, more) = or_parts (is_option w) (has_option words) plain in
    rw (first_step w here, walk_on (w ∷ []) words more)
