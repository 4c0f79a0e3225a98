-- How a list of named values splits into the names, which stay, and the values, which a recursive type may hold: `formers/named/Named`
-- depends on it, and so do the crates above.
use Rattle.std.specs.Prelude.{◌≡◌, ℕ, max, List, [], ◌∷◌, map}
use Rattle.std.specs.Map.{keys_of, values_of}
use mathlib.Core.Path.{refl, sym, ap, ◌∙◌}
use mathlib.Core.Former.{Former, Count, Row, this, const, pair, list, list_count, list_put, children}
use base.Stored.{code_map, coded×, coded_list, gcons}
use denote.RattleType.{RattleType}
use denote.HolePlaces.{Recodes}
use denote.Hole.Carrier.{listed}
use denote.Param.Nested.{deepest}
use denote.Param.Weighed.{Weighed, most, none_max, List-puts, w_pair, w_const}

-- a name beside one value
abbrev pub entry : Former {0} → Type 0 → Former {0}
entry g K = pair (const K) g

-- the same name beside another value
abbrev pub on_value : {K X Y : Type 0} → (X → Y) → K × X → K × Y
on_value h e = (e.0, h e.1)

-- the names weigh nothing
weight-values : {K X : Type 0} (f : X → ℕ) (es : List (K × X)) → most (λ e. max 0 (f e.1)) es ≡ most f (values_of es)
weight-values f [] = refl
weight-values f (e ∷ es) = ap (λ a. max a (most (λ e. max 0 (f e.1)) es)) (sym (none_max (f e.1))) ∙ ap (max (f e.1)) (weight-values f es)

pub entries_puts : {g : Former {0}} (w : Weighed g) (K X : Type 0) (μ : X → ℕ) (es : List (K × g.Of X)) (n : Count) (r : Row X n)
    → deepest μ (list_count (entry g K) (map ((entry g K).shape X) es) n) (list_put (entry g K) X es n r) ≡ max (most (w.weight X μ) (values_of es)) (deepest μ n r)
entries_puts w K X μ es n r = List-puts (w_pair (w_const K) w) X μ es n r ∙ ap (λ a. max a (deepest μ n r)) (weight-values (w.weight X μ) es)

pub values_listed : (K X : Type 0) (es : List (K × X)) → listed _ (children (list (entry this K)) X es) ≡ values_of es
values_listed K X [] = refl
values_listed K X (e ∷ es) = ap (λ xs. e.1 ∷ xs) (values_listed K X es)

pub keys_on_values : {K X Y : Type 0} (h : X → Y) (es : List (K × X)) → keys_of (map (on_value h) es) ≡ keys_of es
keys_on_values h [] = refl
keys_on_values h (e ∷ es) = ap (λ ks. e.0 ∷ ks) (keys_on_values h es)

pub entries_recoded : (K R S : RattleType) (h : R.Denot → S.Denot) → Recodes R S h → (es : List (K.Denot × R.Denot))
    → (coded_list (coded× K.coded S.coded)).code (map (on_value h) es) ≡ (coded_list (coded× K.coded R.coded)).code es
entries_recoded K R S h same es =
    sym (code_map (coded× K.coded R.coded).code (coded× K.coded S.coded).code (on_value h) (λ e i. gcons (K.coded.code e.0) (sym (same e.1) i)) es)
