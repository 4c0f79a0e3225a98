-- The keys that operations alter are found, and if none is found nothing is done; for the crates above too.
use Rattle.std.proofs.Common.{ℕ, Bool, true, false, cond, ◌&&◌, ◌||◌, List, [], ◌∷◌, ◌++◌, ◌≡◌, Option, refl, sym, ap, ◌∙◌, filter, fold, true≢false}
use Rattle.std.specs.List.{list_any}
use Rattle.std.specs.Option.{option_map}
use Rattle.std.specs.Prelude.{nat_eq}
use Rattle.std.proofs.lemmas.Bool.{eq-eqb, eqb-true, or_parts}
use Rattle.std.proofs.Math.Bool.{and-false}
use Rattle.indexmap.specs.IndexSet.{insert_key}
use Rattle.etp_values.specs.SameUri.{same_uri, same_uri-equiv, same_uri-is}
use Rattle.tx_stage.specs.declared.key.Key.{Key}
use Rattle.tx_stage.specs.declared.key.Key.TheVariants.{Space, Object, Array}
use Rattle.tx_stage.specs.declared.op.Op.{Op}
use Rattle.tx_stage.specs.declared.op.OpWhat.{OpWhat}
use Rattle.tx_stage.specs.declared.op.OpWhat.TheVariants.{SetObject, SetArray, Patch, Gone}
use Rattle.tx_stage.specs.declared.value.Value.{Value}
use Rattle.tx_stage.specs.Altered.{Altered, FindsAltered, is_array_of_any, key_hash, may_alter, object_hash, removed, with_gone, with_op}
use Rattle.tx_stage.specs.Keys.{same_key}
use Rattle.tx_stage.specs.Ops.{suits, takes_along, op_alters, op_left}
use Rattle.tx_stage.specs.Overlay.{overlay, there, leaves}
use Rattle.tx_stage.specs.SameKey.{same_key-is}

-- ---- tests of lists

any-none : {A : Type 0} (test : A → Bool) (xs : List A) (x : A) → list_any test xs ≡ false → test x ≡ false → list_any test (xs ++ x ∷ []) ≡ false
any-none test [] x before last = ap (λ b. b || false) last
any-none test (y ∷ ys) x before last =
    let parts = or_parts (test y) (list_any test ys) before in
    ap (λ b. b || list_any test (ys ++ x ∷ [])) parts.0 ∙ any-none test ys x parts.1 last

any-last : {A : Type 0} (test : A → Bool) (xs : List A) (x : A) → list_any test (xs ++ x ∷ []) ≡ false → (list_any test xs ≡ false) × (test x ≡ false)
any-last test [] x h = (refl, (or_parts (test x) false h).0)
any-last test (y ∷ ys) x h =
    let parts = or_parts (test y) (list_any test (ys ++ x ∷ [])) h in
    let rest = any-last test ys x parts.1 in
    (ap (λ b. b || list_any test ys) parts.0 ∙ rest.0, rest.1)

pub none-pass : {A : Type 0} (test : A → Bool) (xs : List A) → list_any test xs ≡ false → filter test xs ≡ []
none-pass test [] h = refl
none-pass test (x ∷ xs) h =
    let parts = or_parts (test x) (list_any test xs) h in
    ap (λ b. cond b (x ∷ filter test xs) (filter test xs)) parts.0 ∙ none-pass test xs parts.1

-- what isn't found after an insert wasn't found before, and isn't what was inserted
module _ {A : Type 0} (eq : A → A → Bool) (is : (x y : A) → eq x y ≡ true → x ≡ y) where
  other : (ks : List A) (k q : A) (b : Bool) → eq q k ≡ b → list_any (eq k) ks ≡ true → list_any (eq q) ks ≡ false → eq q k ≡ false
  other ks k q true same there none = absurd (true≢false (sym there ∙ ap (λ x. list_any (eq x) ks) (sym (is q k same)) ∙ none))
  other ks k q false same there none = same

  inserted-by : (ks : List A) (k q : A) (b : Bool) → list_any (eq k) ks ≡ b → list_any (eq q) (cond b ks (ks ++ k ∷ [])) ≡ false → (list_any (eq q) ks ≡ false) × (eq q k ≡ false)
  inserted-by ks k q true there none = (none, other ks k q (eq q k) refl there none)
  inserted-by ks k q false there none = any-last (eq q) ks k none

  inserted : (ks : List A) (k q : A) → list_any (eq q) (insert_key eq ks k) ≡ false → (list_any (eq q) ks ≡ false) × (eq q k ≡ false)
  inserted ks k q none = inserted-by ks k q (list_any (eq k) ks) refl none

-- ---- one more operation

-- values with different hashes are different
apart : {A : Type 0} (eq : A → A → Bool) (is : (x y : A) → eq x y ≡ true → x ≡ y) (hash : A → ℕ) (x y : A) (b : Bool) → eq x y ≡ b → nat_eq (hash x) (hash y) ≡ false → eq x y ≡ false
apart eq is hash x y true same differ = absurd (true≢false (sym (eq-eqb (hash x) (hash y) (ap hash (is x y same))) ∙ differ))
apart eq is hash x y false same differ = same

-- what it removes
along-removed : (gone : List ℕ) (own key : Key) → is_array_of_any (with_gone gone (option_map object_hash (removed own Gone))) key ≡ false → (is_array_of_any gone key ≡ false) × (takes_along own Gone key ≡ false)
along-removed gone (Space p) key h = (h, refl)
along-removed gone (Object u) (Space q) h = (refl, refl)
along-removed gone (Object u) (Object v) h = (refl, refl)
along-removed gone (Object u) (Array k) h =
    let parts = inserted nat_eq eqb-true gone (object_hash u) (object_hash k.uri) h in
    (parts.0, same_uri-equiv.symm u k.uri ∙ apart same_uri same_uri-is object_hash k.uri u (same_uri k.uri u) refl parts.1)
along-removed gone (Array l) key h = (h, refl)

along : (gone : List ℕ) (own : Key) (what : OpWhat) (key : Key) → is_array_of_any (with_gone gone (option_map object_hash (removed own what))) key ≡ false → (is_array_of_any gone key ≡ false) × (takes_along own what key ≡ false)
along gone own (SetObject r) key h = (h, refl)
along gone own (SetArray r) key h = (h, refl)
along gone own (Patch ss cs vs) key h = (h, refl)
along gone own Gone key h = along-removed gone own key h

pub finds-next : (a : Altered) (ops : List Op) (o : Op) → FindsAltered a ops → FindsAltered (with_op a o) (ops ++ o ∷ [])
finds-next a ops o found key none =
    let parts = or_parts (list_any (nat_eq (key_hash key)) (with_op a o).own) (is_array_of_any (with_op a o).gone key) none in
    let own = inserted nat_eq eqb-true a.own (key_hash o.key) (key_hash key) parts.0 in
    let other = apart same_key same_key-is key_hash key o.key (same_key key o.key) refl own.1 in
    let gone = along a.gone o.key o.what key parts.1 in
    let before : may_alter a key ≡ false = ap (λ b. b || is_array_of_any a.gone key) own.0 ∙ gone.0 in
    let last : op_alters o key ≡ false = (λ j. suits o.key o.what && (other j || gone.1 j)) ∙ and-false (suits o.key o.what) in
    any-none (λ (o : Op). op_alters o key) ops o (found key before) last

-- ---- if none is found

pub overlay-untouched : (a : Altered) (ops : List Op) (key : Key) (base : Option Value) → FindsAltered a ops → may_alter a key ≡ false → base ≡ overlay ops key base
overlay-untouched a ops key base found none = sym (ap (fold (λ v (o : Op). op_left o v) base) (none-pass (λ (o : Op). op_alters o key) ops (found key none)))

pub there-untouched : (a : Altered) (ops : List Op) (key : Key) (base : Bool) → FindsAltered a ops → may_alter a key ≡ false → base ≡ there ops key base
there-untouched a ops key base found none = sym (ap (fold (λ b (o : Op). leaves o.what b) base) (none-pass (λ (o : Op). op_alters o key) ops (found key none)))
