-- What a transaction keeps of its operations and touched keys.
use Rattle.std.proofs.Common.{ℕ, ◌+◌, Bool, true, false, cond, not, ◌||◌, Option, Some, None, Ok, Err, length, List, [], ◌∷◌, ◌++◌, ◌≡◌, refl, sym, ap, ◌∙◌, map, arith}
use Rattle.std.specs.Prelude.{nat_le, is_some}
use Rattle.std.specs.Map.{lookup}
use Rattle.std.proofs.lemmas.List.{length-map}
use Rattle.etp_values.specs.Weight.{weigh}
use Rattle.tx_stage.specs.declared.error.StageError.TheVariants.{Space, Keys}
use Rattle.tx_stage.specs.declared.key.Key.{Key}
use Rattle.tx_stage.specs.Kept.{touch_of, touches}
use Rattle.tx_stage.specs.Keys.{same_key, space_of}
use Rattle.tx_stage.specs.Staging.{Transaction, has_space, is_touched, note_refusal, noted, unless}

pub weigh-push : {X : Type 0} (w : X → ℕ) (xs : List X) (x : X) → weigh w (xs ++ x ∷ []) ≡ weigh w xs + w x
weigh-push w [] x = omega arith
weigh-push w (y ∷ ys) x = omega (arith, weigh-push w ys x)

-- a key is found exactly if it was touched
found-by : {X : Type 0} (b : Bool) (x : X) (rest : Option X) (among : Bool) → is_some rest ≡ among → is_some (cond b (Some x) rest) ≡ (b || among)
found-by true x rest among h = refl
found-by false x rest among h = h

pub found-touched : (key : Key) (es : List (Key × ℕ)) → is_some (lookup (same_key key) es) ≡ is_touched (touches es) key
found-touched key [] = refl
found-touched key (e ∷ es) = found-by (same_key key e.0) e.1 (lookup (same_key key) es) (is_touched (touches es) key) (found-touched key es)

-- one more key
none-found : {X : Type 0} (o : Option X) → is_some o ≡ false → o ≡ None
none-found None h = refl
none-found (Some x) h = absurd cc

map-push : {A B : Type 0} (f : A → B) (xs : List A) (x : A) → map f (xs ++ x ∷ []) ≡ map f xs ++ f x ∷ []
map-push f [] x = refl
map-push f (y ∷ ys) x = ap (λ l. f y ∷ l) (map-push f ys x)

pub absent : (key : Key) (es : List (Key × ℕ)) → is_touched (touches es) key ≡ false → lookup (same_key key) es ≡ None
absent key es fresh = none-found (lookup (same_key key) es) (found-touched key es ∙ fresh)

pub touches-push : (es : List (Key × ℕ)) (key : Key) (mark : ℕ) → touches (es ++ (key, mark) ∷ []) ≡ touches es ++ record { key = key; mark = mark } ∷ []
touches-push es key mark = map-push touch_of es (key, mark)

pub length-touches : (es : List (Key × ℕ)) → length (touches es) ≡ length es
length-touches es = length-map touch_of es

-- ---- noting a key

-- one that is noted already
pub note-known : (x : Transaction) (key : Key) (mark : ℕ) → has_space x.spaces (space_of key) ≡ true → is_touched x.touched key ≡ true
    → (unless (note_refusal x key) ≡ Ok tt) × (x ≡ noted mark x key)
note-known x key mark has touched = (
  (λ j. unless (cond (not (has j)) (Some (Space (space_of key))) (cond (touched j) None (cond (nat_le 16384 (length x.touched)) (Some Keys) None)))),
  sym (λ j. cond (touched j) x (record x { touched = x.touched ++ record { key = key; mark = mark } ∷ [] })),
)

-- one too many
pub note-full : (x : Transaction) (key : Key) → has_space x.spaces (space_of key) ≡ true → is_touched x.touched key ≡ false → nat_le 16384 (length x.touched) ≡ true
    → unless (note_refusal x key) ≡ Err Keys
note-full x key has fresh full =
    λ j. unless (cond (not (has j)) (Some (Space (space_of key))) (cond (fresh j) None (cond (full j) (Some Keys) None)))

-- a new one
pub note-new : (x : Transaction) (es new : List (Key × ℕ)) (key k : Key) (mark : ℕ) → x.touched ≡ touches es → is_touched x.touched key ≡ false → k ≡ key → new ≡ es ++ (k, mark) ∷ []
    → record x { touched = touches new } ≡ noted mark x key
note-new x es new key k mark seen fresh same put =
    (λ j. record x { touched = touches (put j) })
    ∙ (λ j. record x { touched = touches-push es k mark j })
    ∙ (λ j. record x { touched = sym seen j ++ record { key = same j; mark = mark } ∷ [] })
    ∙ sym (λ j. cond (fresh j) x (record x { touched = x.touched ++ record { key = key; mark = mark } ∷ [] }))
