-- What a look-up finds after values were inserted or removed: for this crate and those above it.
use Rattle.std.specs.Prelude.{Bool, true, false, cond, not, List, [], ◌∷◌, ◌≡◌, Option, Some, None, filter, refl}
use Rattle.std.specs.Cmp.{IsEquivalence}
use Rattle.std.specs.Map.{lookup}
use Rattle.std.proofs.Common.{ap, sym, ◌∙◌}
use Rattle.std.proofs.lemmas.Bool.{false≢true}
use Rattle.etp_values.proofs.BoolLemmas.{by_test}

-- ---- by filtering a list

pub none_either : {X : Type 0} (b : Bool) (r : Option X) → r ≡ None → r ≡ cond b None r
none_either true r h = h
none_either false r h = refl

lookup-cond : {K V : Type 0} (p : K → Bool) (a : Bool) (xs ys : List (K × V)) → lookup p (cond a xs ys) ≡ cond a (lookup p xs) (lookup p ys)
lookup-cond p true xs ys = refl
lookup-cond p false xs ys = refl

-- one entry, by the tests on it: whether the key looked up is removed, whether the entry is removed, whether it is the one looked up
pub one_entry : {V : Type 0} (out gone here : Bool) (v : V) (kept rest : Option V) → (here ≡ true → out ≡ gone) → kept ≡ cond out None rest
    → cond (not gone) (cond here (Some v) kept) kept ≡ cond out None (cond here (Some v) rest)
one_entry true true here v kept rest e h = h
one_entry true false true v kept rest e h = absurd (false≢true (sym (e refl)))
one_entry true false false v kept rest e h = h
one_entry false true true v kept rest e h = absurd (false≢true (e refl))
one_entry false true false v kept rest e h = h
one_entry false false true v kept rest e h = refl
one_entry false false false v kept rest e h = h

-- some keys are removed, and the others keep what they had; no two keys that are the same are treated differently
pub lookup-filter : {K V : Type 0} (same : K → K → Bool) (goes : K → Bool) → ((x y : K) → same x y ≡ true → goes x ≡ goes y) → (q : K) (es : List (K × V))
    → lookup (same q) (filter (λ e. not (goes e.0)) es) ≡ cond (goes q) None (lookup (same q) es)
lookup-filter same goes respects q [] = none_either (goes q) None refl
lookup-filter {K} {V} same goes respects q (e ∷ es) =
    let kept = λ (x : K × V). not (goes x.0) in
    lookup-cond (same q) (kept e) (e ∷ filter kept es) (filter kept es)
    ∙ one_entry (goes q) (goes e.0) (same q e.0) e.1 _ (lookup (same q) es) (respects q e.0) (lookup-filter same goes respects q es)

-- ---- in a table that tests the stored key against the one looked up, the other way round

module _ {K R : Type 0} (same : K → K → Bool) (laws : IsEquivalence same) where
  -- after a key is taken out
  pub found_taken : (k q : K) (before after : Option R) → after ≡ cond (same k q) None before → after ≡ cond (same q k) None before
  found_taken k q before after h = h ∙ ap (λ b. cond b None before) (laws.symm k q)

  -- after a value is put
  pub found_set : (r : R) (k q : K) (before after : Option R) → after ≡ cond (same k q) (Some r) before → after ≡ cond (same q k) (Some r) before
  found_set r k q before after h = h ∙ ap (λ b. cond b (Some r) before) (laws.symm k q)

module _ {K R : Type 0} (same : K → K → Bool) (laws : IsEquivalence same) (is : (x y : K) → same x y ≡ true → x ≡ y) where
  -- after a value is put that is made from the one before
  pub found_put : (put : Option R → R) (k q : K) (old : K → Option R) (after : Option R) → after ≡ cond (same k q) (Some (put (old k))) (old q) → after ≡ cond (same q k) (Some (put (old q))) (old q)
  found_put put k q old after h =
      h ∙ by_test (same k q) (λ h. ap (λ x. cond (same k q) (Some (put (old x))) (old q)) (is k q h)) (λ h. rw h refl)
      ∙ ap (λ b. cond b (Some (put (old q))) (old q)) (laws.symm k q)
