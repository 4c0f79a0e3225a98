-- The records of a table that are at their own keys.
use Rattle.std.specs.Prelude.{ℕ, Bool, true, false, cond, List, [], ◌∷◌, ◌≡◌, Some, IfSome, refl, find, map}
use Rattle.std.specs.Cmp.Lexicographic.{nat_list_eq_equiv}
use Rattle.std.specs.List.{IsDistinct, AllByRecursion}
use Rattle.std.specs.Map.{keys_of, values_of, lookup}
use Rattle.std.specs.Str.{bytes_eq}
use Rattle.std.proofs.Common.{sym, subst}
use Rattle.std.proofs.lemmas.Map.{lookup-none}
use Rattle.std.proofs.lemmas.Map.Entries.{none_past_head}
use Rattle.std.proofs.lemmas.Map.Keys.{IsDistinct-tail}
use Rattle.object_store.specs.declared.records.SpaceRecord.{SpaceRecord}
use Rattle.object_store.specs.Tables.{Tables, ListsSpaces, space_in}

-- the record that a path finds says this path
abbrev Says : List (List ℕ × SpaceRecord) → List ℕ → Type 0
Says es path = IfSome (lookup (bytes_eq path) es) (λ r. r.path ≡ path)

head_says : (e : List ℕ × SpaceRecord) (es : List (List ℕ × SpaceRecord)) → Says (e ∷ es) e.0 → e.1.path ≡ e.0
head_says e es says = subst (λ b. IfSome (cond b (Some e.1) (lookup (bytes_eq e.0) es)) (λ r. r.path ≡ e.0)) (nat_list_eq_equiv.refl e.0) says

tail_says : (e : List ℕ × SpaceRecord) (es : List (List ℕ × SpaceRecord)) → IsDistinct bytes_eq (keys_of (e ∷ es)) → ((path : List ℕ) → Says (e ∷ es) path) → (path : List ℕ) → Says es path
tail_says e es distinct says path = by (bytes_eq path e.0) refl
  where
    by : (b : Bool) → bytes_eq path e.0 ≡ b → Says es path
    by true here = subst (λ o. IfSome o (λ r. r.path ≡ path)) (sym (lookup-none (bytes_eq path) es (none_past_head nat_list_eq_equiv path e es distinct here))) tt
    by false here = subst (λ b. IfSome (cond b (Some e.1) (lookup (bytes_eq path) es)) (λ r. r.path ≡ path)) here (says path)

all_say : (es : List (List ℕ × SpaceRecord)) → IsDistinct bytes_eq (keys_of es) → ((path : List ℕ) → Says es path) → AllByRecursion (λ e. e.1.path ≡ e.0) es
all_say [] distinct says = tt
all_say (e ∷ es) distinct says = (head_says e es (says e.0), all_say es (IsDistinct-tail bytes_eq e.0 (keys_of es) distinct) (tail_says e es distinct says))

paths_said : (es : List (List ℕ × SpaceRecord)) → AllByRecursion (λ e. e.1.path ≡ e.0) es → map (λ r. r.path) (values_of es) ≡ keys_of es
paths_said [] all = refl
paths_said (e ∷ es) all = (λ j. all.0 j ∷ paths_said es all.1 j)

found_said : (path : List ℕ) (es : List (List ℕ × SpaceRecord)) → AllByRecursion (λ e. e.1.path ≡ e.0) es → find (λ r. bytes_eq path r.path) (values_of es) ≡ lookup (bytes_eq path) es
found_said path [] all = refl
found_said path (e ∷ es) all = (λ j. cond (bytes_eq path (all.0 j)) (Some e.1) (found_said path es all.1 j))

-- if each record is at its own key, and no key occurs twice, the values are the dataspaces, each once
pub lists_spaces : (t : Tables) (records : List SpaceRecord) → records ≡ values_of t.spaces → IsDistinct bytes_eq (keys_of t.spaces) → ((path : List ℕ) → IfSome (space_in t path) (λ r. r.path ≡ path)) → ListsSpaces t records
lists_spaces t records listed distinct says =
    let all = all_say t.spaces distinct says in
    subst (ListsSpaces t) (sym listed) (record { found = λ path. found_said path t.spaces all; once = subst (IsDistinct bytes_eq) (sym (paths_said t.spaces all)) distinct })
