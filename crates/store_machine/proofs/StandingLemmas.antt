-- The list that represents the changes is the list of dataspaces that the definition makes.
use Rattle.std.specs.Prelude.{ℕ, Bool, true, false, cond, List, [], ◌∷◌, ◌++◌, ◌≡◌, ◌||◌, Option, Some, None, fold, filter, map, refl, is_some}
use Rattle.std.specs.List.{flat_map, list_any}
use Rattle.std.specs.List.Sorted.{IsStrictlySortedBy}
use Rattle.std.specs.declared.cmp.Ordering.{Ordering}
use Rattle.std.specs.declared.cmp.Ordering.TheVariants.{Less, Equal, Greater}
use Rattle.std.specs.Ordering.{match_ordering}
use Rattle.std.specs.Option.{option_map}
use Rattle.std.specs.BTreeSet.{insert_key}
use Rattle.std.specs.Map.{keys_of, lookup}
use Rattle.std.specs.Str.{bytes_eq}
use Rattle.std.proofs.Common.{ap, sym, ◌∙◌, subst, if◌then◌else◌}
use Rattle.std.proofs.lemmas.Bool.{false≢true, or_parts}
use Rattle.std.proofs.lemmas.List.Kept.{IsStrictlySortedBy-filter}
use Rattle.etp_values.specs.SameUri.{text_is}
use Rattle.etp_values.proofs.NameLemmas.{found_alike}
use Rattle.object_store.specs.declared.records.SpaceRecord.{SpaceRecord}
use Rattle.tx_stage.specs.declared.key.Key.TheVariants.{Space}
use Rattle.tx_stage.specs.declared.value.Value.{Value}
use Rattle.tx_stage.specs.declared.value.Value.TheVariants as valued
use Rattle.tx_stage.specs.State.{first}
use Rattle.tx_stage.specs.Values.{as_space}
use Rattle.store_machine.specs.History.{Change, SetSpace, DropSpace, Operate, is_default, alters, left, value}
use Rattle.store_machine.specs.Dataspaces.{with_path, paths, dataspace_in, dataspaces}
use Rattle.store_machine.specs.Kept.{dataspace_at, Stands}
use Rattle.store_machine.proofs.ValueLemmas.{elsewhere}
use Rattle.store_machine.proofs.PlaceLemmas.{path_cmp, paths_in, tie_is, placed-rises}

-- ---- the definition's list

-- a value at a dataspace's key has its path
abbrev IsOf : List ℕ → Option Value → Type 0
IsOf path None = Unit {0}
IsOf path (Some (valued.Space r)) = r.path ≡ path
IsOf path (Some (valued.Object r)) = ⊥
IsOf path (Some (valued.Array r)) = ⊥

either_of : (b : Bool) (path : List ℕ) (v w : Option Value) → IsOf path v → IsOf path w → IsOf path (if b then v else w)
either_of true path v w h k = h
either_of false path v w h k = k

of-left : (path : List ℕ) (v : Option Value) (c : Change) → IsOf path v → alters c (Space path) ≡ true → IsOf path (left v c)
of-left path v (SetSpace p custom at) h e = either_of (is_default p) path v _ h (sym (text_is path p e))
of-left path v (DropSpace p) h e = either_of (is_default p) path v None h tt
of-left path v (Operate o) h e = absurd (false≢true (sym (elsewhere o.key o.what path) ∙ e))

of-fold : (path : List ℕ) (cs : List Change) (v : Option Value) → IsOf path v → IsOf path (fold left v (filter (λ c. alters c (Space path)) cs))
of-fold path [] v h = h
of-fold path (c ∷ cs) v h = by (alters c (Space path)) refl (of-fold path cs)
  where
    by : (b : Bool) → alters c (Space path) ≡ b → ((v : Option Value) → IsOf path v → IsOf path (fold left v (filter (λ c. alters c (Space path)) cs)))
        → IsOf path (fold left v (cond b (c ∷ filter (λ c. alters c (Space path)) cs) (filter (λ c. alters c (Space path)) cs)))
    by true e rest = rest (left v c) (of-left path v c h e)
    by false e rest = rest v h

of-first : (path : List ℕ) → IsOf path (first (Space path))
of-first [] = refl
of-first (c ∷ cs) = tt

of-value : (path : List ℕ) (cs : List Change) → IsOf path (value (Space path) cs)
of-value path cs = of-fold path cs (first (Space path)) (of-first path)

-- the paths of the definition's list are those at which something exists
paths-dataspaces : (cs : List Change) (ps : List (List ℕ)) → paths_in (flat_map (λ path. dataspace_in (value (Space path) cs)) ps) ≡ filter (λ path. is_some (value (Space path) cs)) ps
paths-dataspaces cs [] = refl
paths-dataspaces cs (p ∷ ps) = by (value (Space p) cs) (of-value p cs) (paths-dataspaces cs ps)
  where
    by : (v : Option Value) → IsOf p v → paths_in (flat_map (λ path. dataspace_in (value (Space path) cs)) ps) ≡ filter (λ path. is_some (value (Space path) cs)) ps
        → paths_in (dataspace_in v ++ flat_map (λ path. dataspace_in (value (Space path) cs)) ps) ≡ cond (is_some v) (p ∷ filter (λ path. is_some (value (Space path) cs)) ps) (filter (λ path. is_some (value (Space path) cs)) ps)
    by None o rest = rest
    by (Some (valued.Space r)) o rest = (λ j. o j ∷ rest j)
    by (Some (valued.Object r)) o rest = absurd o
    by (Some (valued.Array r)) o rest = absurd o

paths-rise_from : (cs : List Change) (ps : List (List ℕ)) → IsStrictlySortedBy path_cmp ps → IsStrictlySortedBy path_cmp (fold with_path ps cs)
paths-rise_from [] ps h = h
paths-rise_from (SetSpace p custom at ∷ cs) ps h = paths-rise_from cs (insert_key path_cmp ps p) (placed-rises ps p h)
paths-rise_from (DropSpace p ∷ cs) ps h = paths-rise_from cs ps h
paths-rise_from (Operate o ∷ cs) ps h = paths-rise_from cs ps h

paths-rise : (cs : List Change) → IsStrictlySortedBy path_cmp (paths cs)
unfolding IsStrictlySortedBy
paths-rise cs = paths-rise_from cs ([] ∷ []) (tt, tt)

-- what is found in the definition's list
value-record : (path : List ℕ) (v : Option Value) → IsOf path v → option_map valued.Space (as_space v) ≡ v
value-record path None o = refl
value-record path (Some (valued.Space r)) o = refl
value-record path (Some (valued.Object r)) o = absurd o
value-record path (Some (valued.Array r)) o = absurd o

-- one path more
one_more : (here any : Bool) (v w : Option SpaceRecord) → (here ≡ true → v ≡ w) → cond here v (cond any w None) ≡ cond (here || any) w None
one_more true any v w h = h refl
one_more false any v w h = refl

none_more : (here any : Bool) (w : Option SpaceRecord) → (here ≡ true → w ≡ None) → cond any w None ≡ cond (here || any) w None
none_more false any w h = refl
none_more true true w h = refl
none_more true false w h = sym (h refl)

found-dataspaces : (cs : List Change) (q : List ℕ) (ps : List (List ℕ)) → dataspace_at q (flat_map (λ path. dataspace_in (value (Space path) cs)) ps) ≡ cond (list_any (bytes_eq q) ps) (as_space (value (Space q) cs)) None
found-dataspaces cs q [] = refl
found-dataspaces cs q (p ∷ ps) = by (value (Space p) cs) refl (of-value p cs) (found-dataspaces cs q ps)
  where
    by : (v : Option Value) → value (Space p) cs ≡ v → IsOf p v
        → dataspace_at q (flat_map (λ path. dataspace_in (value (Space path) cs)) ps) ≡ cond (list_any (bytes_eq q) ps) (as_space (value (Space q) cs)) None
        → dataspace_at q (dataspace_in v ++ flat_map (λ path. dataspace_in (value (Space path) cs)) ps) ≡ cond (bytes_eq q p || list_any (bytes_eq q) ps) (as_space (value (Space q) cs)) None
    by None e o rest = rest ∙ none_more (bytes_eq q p) (list_any (bytes_eq q) ps) (as_space (value (Space q) cs)) (λ h. ap (λ y. as_space (value (Space y) cs)) (text_is q p h) ∙ ap as_space e)
    by (Some (valued.Space r)) e o rest = ap (cond (bytes_eq q r.path) (Some r)) rest
        ∙ ap (λ y. cond (bytes_eq q y) (Some r) (cond (list_any (bytes_eq q) ps) (as_space (value (Space q) cs)) None)) o
        ∙ one_more (bytes_eq q p) (list_any (bytes_eq q) ps) (Some r) (as_space (value (Space q) cs)) (λ h. sym (ap (λ y. as_space (value (Space y) cs)) (text_is q p h) ∙ ap as_space e))
    by (Some (valued.Object r)) e o rest = absurd o
    by (Some (valued.Array r)) e o rest = absurd o

-- a path among others, and the one put there
pub or_swap : (a b c : Bool) → (a || (b || c)) ≡ (b || (a || c))
or_swap true true c = refl
or_swap true false c = refl
or_swap false b c = refl

or_twice : (a b c : Bool) → a ≡ b → (b || c) ≡ (a || (b || c))
or_twice true true c h = refl
or_twice true false c h = absurd (false≢true (sym h))
or_twice false b c h = refl

any-placed : (q p : List ℕ) (ps : List (List ℕ)) → list_any (bytes_eq q) (insert_key path_cmp ps p) ≡ (bytes_eq q p || list_any (bytes_eq q) ps)
any-placed q p [] = refl
any-placed q p (x ∷ xs) = by (path_cmp p x) refl (any-placed q p xs)
  where
    by : (o : Ordering) → path_cmp p x ≡ o → list_any (bytes_eq q) (insert_key path_cmp xs p) ≡ (bytes_eq q p || list_any (bytes_eq q) xs)
        → list_any (bytes_eq q) (match_ordering o (p ∷ x ∷ xs) (x ∷ xs) (x ∷ insert_key path_cmp xs p)) ≡ (bytes_eq q p || (bytes_eq q x || list_any (bytes_eq q) xs))
    by Less e rest = refl
    by Equal e rest = or_twice (bytes_eq q p) (bytes_eq q x) (list_any (bytes_eq q) xs) (ap (bytes_eq q) (tie_is p x e))
    by Greater e rest = ap (λ b. bytes_eq q x || b) rest ∙ or_swap (bytes_eq q x) (bytes_eq q p) (list_any (bytes_eq q) xs)

none_either : (b : Bool) (v : Option Value) → v ≡ None → (if b then v else None) ≡ None
none_either true v h = h
none_either false v h = refl

-- a path that was never put has no value
unput_from : (q : List ℕ) (cs : List Change) (ps : List (List ℕ)) (v : Option Value) → (list_any (bytes_eq q) ps ≡ false → v ≡ None) → list_any (bytes_eq q) (fold with_path ps cs) ≡ false → fold left v (filter (λ c. alters c (Space q)) cs) ≡ None
unput_from q [] ps v h k = h k
unput_from q (SetSpace p custom at ∷ cs) ps v h k = by (bytes_eq q p) refl (λ w n. unput_from q cs (insert_key path_cmp ps p) w n k)
  where
    rest_of : List Change
    rest_of = filter (λ c. alters c (Space q)) cs

    by : (b : Bool) → bytes_eq q p ≡ b → ((w : Option Value) → (list_any (bytes_eq q) (insert_key path_cmp ps p) ≡ false → w ≡ None) → fold left w rest_of ≡ None)
        → fold left v (cond b (SetSpace p custom at ∷ rest_of) rest_of) ≡ None
    by true e rest = rest (left v (SetSpace p custom at)) (λ n. absurd (false≢true (sym (or_parts (bytes_eq q p) (list_any (bytes_eq q) ps) (sym (any-placed q p ps) ∙ n)).0 ∙ e)))
    by false e rest = rest v (λ n. h (or_parts (bytes_eq q p) (list_any (bytes_eq q) ps) (sym (any-placed q p ps) ∙ n)).1)
unput_from q (DropSpace p ∷ cs) ps v h k = by (bytes_eq q p) (λ w n. unput_from q cs ps w n k)
  where
    rest_of : List Change
    rest_of = filter (λ c. alters c (Space q)) cs

    by : (b : Bool) → ((w : Option Value) → (list_any (bytes_eq q) ps ≡ false → w ≡ None) → fold left w rest_of ≡ None)
        → fold left v (cond b (DropSpace p ∷ rest_of) rest_of) ≡ None
    by true rest = rest (if is_default p then v else None) (λ n. none_either (is_default p) v (h n))
    by false rest = rest v h
unput_from q (Operate o ∷ cs) ps v h k =
    ap (λ b. fold left v (cond b (Operate o ∷ filter (λ c. alters c (Space q)) cs) (filter (λ c. alters c (Space q)) cs))) (elsewhere o.key o.what q) ∙ unput_from q cs ps v h k

unput-first : (q : List ℕ) → list_any (bytes_eq q) ([] ∷ []) ≡ false → first (Space q) ≡ None
unput-first [] h = absurd (false≢true (sym h))
unput-first (c ∷ cs) h = refl

unput : (q : List ℕ) (cs : List Change) → list_any (bytes_eq q) (paths cs) ≡ false → value (Space q) cs ≡ None
unput q cs h = unput_from q cs ([] ∷ []) (first (Space q)) (unput-first q) h

all_found : (b : Bool) (path : List ℕ) (v : Option Value) → IsOf path v → (b ≡ false → v ≡ None) → option_map valued.Space (cond b (as_space v) None) ≡ v
all_found true path v o h = value-record path v o
all_found false path v o h = sym (h refl)

-- the definition's list represents the changes
pub stands-dataspaces : (cs : List Change) → Stands (dataspaces cs) cs
stands-dataspaces cs = record {
  rise = subst (IsStrictlySortedBy path_cmp) (sym (paths-dataspaces cs (paths cs))) (IsStrictlySortedBy-filter path_cmp (λ path. is_some (value (Space path) cs)) (paths cs) (paths-rise cs));
  finds = λ q. ap (option_map valued.Space) (found-dataspaces cs q (paths cs)) ∙ all_found (list_any (bytes_eq q) (paths cs)) q (value (Space q) cs) (of-value q cs) (unput q cs);
}

-- ---- two lists in order that have the same at each path are equal

abbrev pub by_path : List SpaceRecord → List (List ℕ × SpaceRecord)
by_path rs = map (λ (r : SpaceRecord). (r.path, r)) rs

pub keys-by_path : (rs : List SpaceRecord) → keys_of (by_path rs) ≡ paths_in rs
keys-by_path [] = refl
keys-by_path (r ∷ rs) = ap (λ l. r.path ∷ l) (keys-by_path rs)

pub lookup-by_path : (q : List ℕ) (rs : List SpaceRecord) → lookup (bytes_eq q) (by_path rs) ≡ dataspace_at q rs
lookup-by_path q [] = refl
lookup-by_path q (r ∷ rs) = ap (cond (bytes_eq q r.path) (Some r)) (lookup-by_path q rs)

records-by_path : (rs : List SpaceRecord) → map (λ (e : List ℕ × SpaceRecord). e.1) (by_path rs) ≡ rs
records-by_path [] = refl
records-by_path (r ∷ rs) = ap (λ l. r ∷ l) (records-by_path rs)

pub same_map : (x y : Option SpaceRecord) → option_map valued.Space x ≡ option_map valued.Space y → x ≡ y
same_map None None h = refl
same_map None (Some y) h = absurd (cc)
same_map (Some x) None h = absurd (cc)
same_map (Some x) (Some y) h = ap as_space h

pub one_list : (rs ss : List SpaceRecord) → IsStrictlySortedBy path_cmp (paths_in rs) → IsStrictlySortedBy path_cmp (paths_in ss) → ((q : List ℕ) → lookup (bytes_eq q) (by_path rs) ≡ lookup (bytes_eq q) (by_path ss)) → rs ≡ ss
one_list rs ss rise rises same =
    let whole : by_path rs ≡ by_path ss = found_alike (by_path rs) (by_path ss) (subst (IsStrictlySortedBy path_cmp) (sym (keys-by_path rs)) rise) (subst (IsStrictlySortedBy path_cmp) (sym (keys-by_path ss)) rises) same in
    sym (records-by_path rs) ∙ ap (map (λ (e : List ℕ × SpaceRecord). e.1)) whole ∙ records-by_path ss
