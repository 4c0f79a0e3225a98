-- `clap` refuses no words without options.
use Rattle.std.proofs.Common.{◌≡◌, ◌≤◌, List, [], ◌∷◌, ◌++◌, length, Bool, true, false, ◌==◌, ◌&&◌, nat_le, is_some, refl, ap, ◌∙◌, arith}
use Rattle.std.specs.List.{list_all}
use Rattle.std.proofs.lemmas.Bool.{or_parts}
use Rattle.std.proofs.lemmas.Bool.Decides.{nat_tests}
use Rattle.clap.specs.Lexer.{usize_max}
use Rattle.clap.specs.Walk.{Rule, Text, Walk, finished, nothing_held, walk_from}
use Rattle.clap.specs.Simple.{built, entered, filled, with_index}
use Rattle.clap.specs.Takes.{default_passes, entered_passes, is_valid, settle_passes, takes, turn_passes, value_passes, walk_passes}
use Rattle.clap.proofs.OnLiterals.{clap_on_literals}
use Rattle.command_words.specs.Words.{is_option, has_option}
use Rattle.command_words.specs.Command.{word_app, word_rule}
use Rattle.command_words.proofs.WalkLemmas.{top, at, first_step, next_step, whole_walk}

first_turn : (w : Text) → is_option w ≡ false → turn_passes top [] (walk_from nothing_held) w ≡ true
first_turn [] plain = refl
first_turn (b ∷ bs) plain = let no_hyphen : (b == 45) ≡ false = plain in rw (no_hyphen, no_hyphen)

next_turn : (before : List Text) (w : Text) → is_option w ≡ false → turn_passes top [] (at before) w ≡ true
next_turn before [] plain = refl
next_turn before (b ∷ bs) plain = let no_hyphen : (b == 45) ≡ false = plain in rw (no_hyphen, no_hyphen)

passes_on : (before words : List Text) → has_option words ≡ false → walk_passes top [] (at before) words ≡ true
unfolding walk_passes
passes_on before [] plain = refl
passes_on before (w ∷ words) plain =
    let (here, more) = or_parts (is_option w) (has_option words) plain in
    rw (next_turn before w here, next_step before w here, passes_on (before ++ w ∷ []) words more)

whole_passes : (w : Text) (words : List Text) → has_option (w ∷ words) ≡ false → walk_passes top [] (walk_from nothing_held) (w ∷ words) ≡ true
unfolding walk_passes
whole_passes w words plain =
    let (here, more) = or_parts (is_option w) (has_option words) plain in
    rw (first_turn w here, first_step w here, passes_on (w ∷ []) words more)

-- the argument as it is built
abbrev filled_rule : Rule
filled_rule = with_index 1 (filled word_rule)

all_accepted : (words : List Text) → list_all (value_passes filled_rule) words ≡ true
all_accepted [] = refl
all_accepted (w ∷ words) = all_accepted words

both : {a b : Bool} → a ≡ true → b ≡ true → (a && b) ≡ true
both {a} {b} first second = rw (first, second)

settles : (w : Text) (words : List Text) → length (w ∷ words) ≤ usize_max → settle_passes top.rules false (at (w ∷ words)).held ≡ true
settles w words bound =
    let at_least : nat_le 0 (length (w ∷ words)) ≡ true = grind (arith, nat_tests) in
    let at_most : nat_le (length (w ∷ words)) usize_max ≡ true = grind (arith, nat_tests) in
    both at_least (both at_most (all_accepted words))

-- what `clap` tests once the walk has ended here
abbrev ends_well : List Text → Walk → Bool
ends_well words end =
    entered_passes (built word_app) end.stopped
    && (walk_passes top [] (walk_from nothing_held) words && (settle_passes top.rules false end.held
    && (list_all default_passes top.rules && is_valid top (finished top.rules end.held) (is_some (entered (built word_app) end.stopped)))))

some_taken : (w : Text) (words : List Text) → length (w ∷ words) ≤ usize_max → has_option (w ∷ words) ≡ false → takes word_app (w ∷ words) ≡ true
some_taken w words bound plain =
    ap (ends_well (w ∷ words)) (whole_walk w words plain) ∙ rw (whole_passes w words plain, settles w words bound)

none_taken : takes word_app [] ≡ true
unfolding clap_on_literals
none_taken = refl

pub taken : (words : List Text) → length words ≤ usize_max → has_option words ≡ false → takes word_app words ≡ true
taken [] bound plain = none_taken
taken (w ∷ words) bound plain = some_taken w words bound plain
