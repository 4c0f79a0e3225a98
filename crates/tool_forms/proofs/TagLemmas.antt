-- The states of tags.
use Rattle.std.proofs.Common.{◌≡◌, ◌==◌, ℕ, Bool, true, false, cond, List, [], ◌∷◌, refl, ap, sym, ◌∙◌, arith, None, Some}
use Rattle.std.specs.declared.cmp.Ordering.{Ordering}
use Rattle.std.specs.declared.cmp.Ordering.TheVariants.{Less, Equal, Greater}
use Rattle.std.specs.Ordering.{nat_cmp, match_ordering, is_eq}
use Rattle.std.specs.BTreeMap.{is_at}
use Rattle.std.proofs.lemmas.Bool.Decides.{nat_tests}
use Rattle.std.proofs.lemmas.Bool.{false≢true}
use Rattle.std.proofs.lemmas.Map.Lookups.{exact_unsigned}
use Rattle.tool_forms.specs.Play.{state_of, with_tag}
use Rattle.tool_forms.specs.declared.tag.TagState.{TagState}

pub same_tag : (tag : ℕ) → nat_cmp tag tag ≡ Equal
same_tag tag = grind (arith, nat_tests)

-- one state put after another
put_behind : (tag : ℕ) (x y : TagState) (e : ℕ × TagState) (tags : List (ℕ × TagState)) (o : Ordering) → nat_cmp tag e.0 ≡ o → with_tag tag y (with_tag tag x tags) ≡ with_tag tag y tags
    → with_tag tag y (match_ordering o ((tag, x) ∷ e ∷ tags) ((e.0, x) ∷ tags) (e ∷ with_tag tag x tags)) ≡ match_ordering o ((tag, y) ∷ e ∷ tags) ((e.0, y) ∷ tags) (e ∷ with_tag tag y tags)
put_behind tag x y e tags Less is more = ap (λ r. match_ordering r ((tag, y) ∷ (tag, x) ∷ e ∷ tags) ((tag, y) ∷ e ∷ tags) ((tag, x) ∷ with_tag tag y (e ∷ tags))) (same_tag tag)
put_behind tag x y e tags Equal is more = ap (λ r. match_ordering r ((tag, y) ∷ (e.0, x) ∷ tags) ((e.0, y) ∷ tags) ((e.0, x) ∷ with_tag tag y tags)) is
put_behind tag x y e tags Greater is more =
    ap (λ r. match_ordering r ((tag, y) ∷ e ∷ with_tag tag x tags) ((e.0, y) ∷ with_tag tag x tags) (e ∷ with_tag tag y (with_tag tag x tags))) is ∙ ap (λ l. e ∷ l) more

-- a state that is put twice is the one that was put last
pub put_twice : (tag : ℕ) (x y : TagState) (tags : List (ℕ × TagState)) → with_tag tag y (with_tag tag x tags) ≡ with_tag tag y tags
put_twice tag x y [] = ap (λ r. match_ordering r ((tag, y) ∷ (tag, x) ∷ []) ((tag, y) ∷ []) ((tag, x) ∷ (tag, y) ∷ [])) (same_tag tag)
put_twice tag x y (e ∷ es) = put_behind tag x y e es (nat_cmp tag e.0) refl (put_twice tag x y es)

-- two tags are the same or the test tells them apart
eq_order : (o : Ordering) → is_eq o ≡ true → o ≡ Equal
eq_order Less e = absurd (false≢true e)
eq_order Equal e = refl
eq_order Greater e = absurd (false≢true e)

pub at_same : (tag other : ℕ) → is_at (nat_cmp tag) other ≡ true → tag ≡ other
at_same tag other e = exact_unsigned tag other (eq_order (nat_cmp tag other) e)

pub at_self : (tag : ℕ) → is_at (nat_cmp tag) tag ≡ true
at_self tag = ap is_eq (same_tag tag)

pub at_other : (tag other : ℕ) → (tag == other) ≡ false → is_at (nat_cmp tag) other ≡ false
at_other tag other is = grind (arith, nat_tests)

-- a state that was put is at its tag, and the others are where they were
abbrev pub IsPut : ℕ → TagState → List (ℕ × TagState) → List (ℕ × TagState) → Type 0
IsPut tag state old new = (q : ℕ) → state_of q new ≡ cond (is_at (nat_cmp tag) q) (Some state) (state_of q old)

flipped : (a b : ℕ) → is_at (nat_cmp a) b ≡ is_at (nat_cmp b) a
flipped a b = grind (arith, nat_tests)

not_both : (tag key q : ℕ) → nat_cmp tag key ≡ Greater → is_at (nat_cmp tag) q ≡ true → is_at (nat_cmp q) key ≡ false
not_both tag key q is here = grind (arith, nat_tests)

swapped : {X : Type 0} (a b : Bool) (x y z : X) → (a ≡ true → b ≡ false) → cond b y (cond a x z) ≡ cond a x (cond b y z)
swapped true true x y z one = absurd (false≢true (sym (one refl)))
swapped true false x y z one = refl
swapped false true x y z one = refl
swapped false false x y z one = refl

under : {X : Type 0} (a : Bool) (x y z : X) → cond a x z ≡ cond a x (cond a y z)
under true x y z = refl
under false x y z = refl

found_behind : (tag : ℕ) (x : TagState) (q : ℕ) (e : ℕ × TagState) (tags : List (ℕ × TagState)) (o : Ordering) → nat_cmp tag e.0 ≡ o
    → state_of q (with_tag tag x tags) ≡ cond (is_at (nat_cmp tag) q) (Some x) (state_of q tags)
    → state_of q (match_ordering o ((tag, x) ∷ e ∷ tags) ((e.0, x) ∷ tags) (e ∷ with_tag tag x tags)) ≡ cond (is_at (nat_cmp tag) q) (Some x) (state_of q (e ∷ tags))
found_behind tag x q e tags Less is more = ap (λ b. cond b (Some x) (state_of q (e ∷ tags))) (flipped q tag)
found_behind tag x q e tags Equal is more =
    let same : is_at (nat_cmp q) e.0 ≡ is_at (nat_cmp tag) q = ap (λ (k : ℕ). is_at (nat_cmp q) k) (sym (exact_unsigned tag e.0 is)) ∙ flipped q tag in
    ap (λ b. cond b (Some x) (state_of q tags)) same ∙ under (is_at (nat_cmp tag) q) (Some x) (Some e.1) (state_of q tags)
    ∙ ap (λ b. cond (is_at (nat_cmp tag) q) (Some x) (cond b (Some e.1) (state_of q tags))) (sym same)
found_behind tag x q e tags Greater is more =
    ap (λ o. cond (is_at (nat_cmp q) e.0) (Some e.1) o) more
    ∙ swapped (is_at (nat_cmp tag) q) (is_at (nat_cmp q) e.0) (Some x) (Some e.1) (state_of q tags) (not_both tag e.0 q is)

-- the same holds where a state is put
pub put_found : (tag : ℕ) (x : TagState) (q : ℕ) (tags : List (ℕ × TagState)) → state_of q (with_tag tag x tags) ≡ cond (is_at (nat_cmp tag) q) (Some x) (state_of q tags)
put_found tag x q [] = ap (λ b. cond b (Some x) None) (flipped q tag)
put_found tag x q (e ∷ es) = found_behind tag x q e es (nat_cmp tag e.0) refl (put_found tag x q es)
