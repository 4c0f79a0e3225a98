-- Which entries altered a key: itself, or with its owner.
use Rattle.std.specs.Prelude.{ℕ, ℤ, ◌≡◌, ◌+◌, ◌≤◌, ◌&&◌, ◌||◌, min, Bool, true, false, List, [], ◌∷◌, ◌++◌, Option, Some, None, Result, Ok, Err, IfOk, refl, if◌then◌else◌, drop, length, find, map, nat_le}
use Rattle.std.specs.List.{All, flat_map, list_any}
use Rattle.std.specs.Map.{lookup}
use Rattle.std.specs.Option.{unwrap_or}
use Rattle.std.specs.Str.{bytes_eq}
use Rattle.std.proofs.Common.{ap, sym, ◌∙◌, subst, arith}
use Rattle.std.proofs.lemmas.Grind.{common_steps}
use Rattle.std.proofs.lemmas.List.Elements.{All-nil}
use Rattle.std.proofs.lemmas.List.Folds.{list_any-append}
use Rattle.std.proofs.Math.Bool.{or-false}
use Rattle.entry_index.specs.Index.{places_of}
use Rattle.entry_index.specs.Where.{first_where, places_where}
use Rattle.entry_index.proofs.WhereLemmas.{first-is-found, places-go-on}
use Rattle.etp_values.specs.SameUri.{same_uri, same_uri-equiv}
use Rattle.etp_values.specs.declared.uri.StoreUri.{StoreUri}
use Rattle.tx_stage.specs.declared.key.Key.{Key}
use Rattle.tx_stage.specs.declared.key.Key.TheVariants.{Space, Object, Array}
use Rattle.tx_stage.specs.declared.op.OpWhat.{OpWhat}
use Rattle.tx_stage.specs.declared.op.OpWhat.TheVariants.{SetObject, SetArray, Patch, Gone}
use Rattle.tx_stage.specs.declared.touch.Touch.{Touch}
use Rattle.tx_stage.specs.Keys.{is_array_of, same_key}
use Rattle.tx_stage.specs.Ops.{alters_by, suits}
use Rattle.etp_values.specs.declared.memory.NoMemory.{NoMemory}
use Rattle.store_machine.specs.declared.alterations.Alterations.{Alterations}
use Rattle.store_machine.specs.declared.alterations.Altered.{Altered}
use Rattle.store_machine.specs.declared.call.SpacePut.{SpacePut}
use Rattle.store_machine.specs.declared.journal.Entry.{Entry}
use Rattle.store_machine.specs.Clash.{clash, conflict, least}
use Rattle.store_machine.specs.History.{Change, SetSpace, DropSpace, Operate, alters, entry_alters, entry_changes, set_space}
use Rattle.store_machine.specs.Legal.{door}
use Rattle.store_machine.specs.Marking.{Alters, Marks, containers, entry_owns, entry_removes, is_removal, key_if, own_keys, owner_clash, put_key, whole_keys}
use Rattle.store_machine.specs.Watching.{IsCounted}
use Rattle.store_machine.proofs.WatchLemmas.{all_later}

-- ---- tests on lists

any-flat : {X Y : Type 0} (p : Y → Bool) (f : X → List Y) (xs : List X) → list_any p (flat_map f xs) ≡ list_any (λ x. list_any p (f x)) xs
any-flat p f [] = refl
any-flat p f (x ∷ xs) = list_any-append p (f x) (flat_map f xs) ∙ ap (λ b. list_any p (f x) || b) (any-flat p f xs)

swap : (a b c d : Bool) → ((a || b) || (c || d)) ≡ ((a || c) || (b || d))
swap true b c d = refl
swap false true true d = refl
swap false true false d = refl
swap false false c d = refl

any-or : {X : Type 0} (p q : X → Bool) (xs : List X) → list_any (λ x. p x || q x) xs ≡ (list_any p xs || list_any q xs)
any-or p q [] = refl
any-or p q (x ∷ xs) = ap (λ b. (p x || q x) || b) (any-or p q xs) ∙ swap (p x) (q x) (list_any p xs) (list_any q xs)

any-same : {X : Type 0} (p q : X → Bool) → ((x : X) → p x ≡ q x) → (xs : List X) → list_any p xs ≡ list_any q xs
any-same p q same [] = refl
any-same p q same (x ∷ xs) = (λ j. same x j || any-same p q same xs j)

-- ---- one change

-- a change removes the owner of a key, by the keys that it removes with everything in them
removed_in : List Key → Key → Bool
removed_in whole key = list_any (λ w. list_any (same_key w) whole) (containers key)

none-removed : (key : Key) → removed_in [] key ≡ false
unfolding removed_in
none-removed (Space p) = refl
none-removed (Object u) = refl
none-removed (Array k) = refl

-- what is set alters its own key
set-is : (s : Bool) (own key : Key) → (s && (same_key key own || false)) ≡ (list_any (same_key key) (key_if s own) || removed_in [] key)
set-is s own key = by s ∙ sym (ap (λ b. list_any (same_key key) (key_if s own) || b) (none-removed key) ∙ or-false (list_any (same_key key) (key_if s own)))
  where
    by : (s : Bool) → (s && (same_key key own || false)) ≡ list_any (same_key key) (key_if s own)
    by true = refl
    by false = refl

-- a removed object takes its arrays along
gone-is : (u : StoreUri) (key : Key) → (same_key key (Object u) || is_array_of (Object u) key) ≡ (list_any (same_key key) (Object u ∷ []) || removed_in (Object u ∷ []) key)
unfolding removed_in
gone-is u (Space p) = refl
gone-is u (Object v) = sym (or-false (same_uri v u || false))
gone-is u (Array k) = same_uri-equiv.symm u k.uri ∙ sym (or-false (same_uri k.uri u || false) ∙ or-false (same_uri k.uri u))

op-is : (own : Key) (what : OpWhat) (key : Key) → alters_by own what key
    ≡ (list_any (same_key key) (key_if (suits own what) own) || removed_in (key_if (is_removal what && suits own what) own) key)
op-is own (SetObject r) key = set-is (suits own (SetObject r)) own key
op-is own (SetArray r) key = set-is (suits own (SetArray r)) own key
op-is own (Patch ss cs vs) key = set-is (suits own (Patch ss cs vs)) own key
op-is (Space p) Gone key = sym (none-removed key)
op-is (Object u) Gone key = gone-is u key
op-is (Array k) Gone key = sym (none-removed key)

-- a change alters a key itself, or removes its owner
change-is : (c : Change) (key : Key) → alters c key ≡ (list_any (same_key key) (own_keys c) || removed_in (whole_keys c) key)
unfolding removed_in
change-is (SetSpace path custom at) (Space p) = sym (or-false (bytes_eq p path || false) ∙ or-false (bytes_eq p path))
change-is (SetSpace path custom at) (Object u) = refl
change-is (SetSpace path custom at) (Array k) = refl
change-is (DropSpace path) (Space p) = sym (or-false (bytes_eq p path || false) ∙ or-false (bytes_eq p path))
change-is (DropSpace path) (Object u) = sym (or-false (bytes_eq u.space path || false) ∙ or-false (bytes_eq u.space path))
change-is (DropSpace path) (Array k) = sym (or-false (bytes_eq k.uri.space path || false) ∙ or-false (bytes_eq k.uri.space path))
change-is (Operate o) key = op-is o.key o.what key

-- ---- one entry

-- an entry removes the owner of a key
owner_removed : Key → Entry → Bool
owner_removed key e = list_any (λ w. entry_removes w e) (containers key)

any-swap : {X Y : Type 0} (p : X → Y → Bool) (xs : List X) (ys : List Y) → list_any (λ y. list_any (λ x. p x y) xs) ys ≡ list_any (λ x. list_any (p x) ys) xs
any-swap p [] [] = refl
any-swap p [] (y ∷ ys) = any-swap p [] ys
any-swap p (x ∷ xs) ys = any-or (p x) (λ y. list_any (λ z. p z y) xs) ys ∙ ap (λ b. list_any (p x) ys || b) (any-swap p xs ys)

entry-is : (key : Key) (e : Entry) → entry_alters key e ≡ (entry_owns key e || owner_removed key e)
unfolding owner_removed removed_in
entry-is key e =
    any-same (λ c. alters c key) (λ c. list_any (same_key key) (own_keys c) || removed_in (whole_keys c) key) (λ c. change-is c key) (entry_changes e)
    ∙ any-or (λ c. list_any (same_key key) (own_keys c)) (λ c. removed_in (whole_keys c) key) (entry_changes e)
    ∙ (λ j. sym (any-flat (same_key key) own_keys (entry_changes e)) j || any-swap (λ w c. list_any (same_key w) (whole_keys c)) (containers key) (entry_changes e) j)
    ∙ ap (λ b. entry_owns key e || b) (any-same (λ w. list_any (λ c. list_any (same_key w) (whole_keys c)) (entry_changes e)) (λ w. entry_removes w e) (λ w. sym (any-flat (same_key w) whole_keys (entry_changes e))) (containers key))

-- ---- the first of two places

first-from : {X : Type 0} (p : X → Bool) (place : ℕ) (xs : List X) (k : ℕ) → first_where p place xs ≡ Some k → place ≤ k
first-from p place [] k h = absurd (cc)
first-from {X} p place (x ∷ xs) k h = by (p x) h (first-from p (place + 1) xs k)
  where
    by : (b : Bool) → (if b then Some place else first_where p (place + 1) xs) ≡ Some k → (first_where p (place + 1) xs ≡ Some k → place + 1 ≤ k) → place ≤ k
    by true e rest = let same : place ≡ k = cc in omega (arith, same)
    by false e rest = let later = rest e in omega (arith, later)

least-here : (place : ℕ) (o : Option ℕ) → ((k : ℕ) → o ≡ Some k → place ≤ k) → least (Some place) o ≡ Some place
least-here place None h = refl
least-here place (Some k) h = let below = h k refl in let m : min place k ≡ place = omega (arith, below) in ap Some m

least-comm : (a b : Option ℕ) → least a b ≡ least b a
least-comm None None = refl
least-comm None (Some b) = refl
least-comm (Some a) None = refl
least-comm (Some a) (Some b) = let m : min a b ≡ min b a = omega arith in ap Some m

least-assoc : (a b c : Option ℕ) → least (least a b) c ≡ least a (least b c)
least-assoc None b c = refl
least-assoc (Some a) None c = refl
least-assoc (Some a) (Some b) None = refl
least-assoc (Some a) (Some b) (Some c) = let m : min (min a b) c ≡ min a (min b c) = omega arith in ap Some m

first-or : {X : Type 0} (p q : X → Bool) (place : ℕ) (xs : List X) → first_where (λ x. p x || q x) place xs ≡ least (first_where p place xs) (first_where q place xs)
first-or p q place [] = refl
first-or {X} p q place (x ∷ xs) = by (p x) (q x) (first-or p q (place + 1) xs)
  where
    later : (r : X → Bool) (k : ℕ) → first_where r (place + 1) xs ≡ Some k → place ≤ k
    later r k e = let l = first-from r (place + 1) xs k e in omega (arith, l)

    by : (a b : Bool) → first_where (λ y. p y || q y) (place + 1) xs ≡ least (first_where p (place + 1) xs) (first_where q (place + 1) xs)
        → (if a || b then Some place else first_where (λ y. p y || q y) (place + 1) xs) ≡ least (if a then Some place else first_where p (place + 1) xs) (if b then Some place else first_where q (place + 1) xs)
    by true true rest = sym (least-here place (Some place) (λ k e. let same : place ≡ k = cc in omega (arith, same)))
    by true false rest = sym (least-here place (first_where q (place + 1) xs) (later q))
    by false true rest = sym (least-comm (first_where p (place + 1) xs) (Some place) ∙ least-here place (first_where p (place + 1) xs) (later p))
    by false false rest = rest

first-same : {X : Type 0} (p q : X → Bool) → ((x : X) → p x ≡ q x) → (place : ℕ) (xs : List X) → first_where p place xs ≡ first_where q place xs
first-same p q same place [] = refl
first-same p q same place (x ∷ xs) = (λ j. if same x j then Some place else first-same p q same (place + 1) xs j)

first-none : {X : Type 0} (place : ℕ) (xs : List X) → first_where (λ x. false) place xs ≡ None
first-none place [] = refl
first-none place (x ∷ xs) = first-none (place + 1) xs

-- ---- what the index finds

owner-is : (key : Key) (from : ℕ) (history : List Entry) → first_where (owner_removed key) from (drop from history) ≡ owner_clash key from history
unfolding owner_removed
owner-is (Space p) from history = first-none from (drop from history)
owner-is (Object u) from history = first-same (λ e. entry_removes (Space u.space) e || false) (entry_removes (Space u.space)) (λ e. or-false (entry_removes (Space u.space) e)) from (drop from history)
owner-is (Array k) from history =
    first-same (λ e. entry_removes (Object k.uri) e || (entry_removes (Space k.uri.space) e || false)) (λ e. entry_removes (Object k.uri) e || entry_removes (Space k.uri.space) e)
    (λ e. ap (λ b. entry_removes (Object k.uri) e || b) (or-false (entry_removes (Space k.uri.space) e))) from (drop from history)
    ∙ first-or (entry_removes (Object k.uri)) (entry_removes (Space k.uri.space)) from (drop from history)

-- the clash is the first of the two
pub clash-is : (key : Key) (from : ℕ) (history : List Entry) → clash key from history ≡ least (first_where (entry_owns key) from (drop from history)) (owner_clash key from history)
clash-is key from history =
    first-same (entry_alters key) (λ e. entry_owns key e || owner_removed key e) (entry-is key) from (drop from history)
    ∙ first-or (entry_owns key) (owner_removed key) from (drop from history)
    ∙ ap (least (first_where (entry_owns key) from (drop from history))) (owner-is key from history)

-- what the index finds for a key itself, and for what is removed whole
pub finds-own : (a : Alterations) (history : List Entry) (key : Key) (from : ℕ) → Marks a history → find (nat_le from) (places_of same_key a.own key) ≡ first_where (entry_owns key) from (drop from history)
finds-own a history key from m = ap (find (nat_le from)) (m.own key) ∙ first-is-found (entry_owns key) from history

pub finds-whole : (a : Alterations) (history : List Entry) (key : Key) (from : ℕ) → Marks a history → find (nat_le from) (places_of same_key a.whole key) ≡ first_where (entry_removes key) from (drop from history)
finds-whole a history key from m = ap (find (nat_le from)) (m.whole key) ∙ first-is-found (entry_removes key) from history

-- ---- the keys of changes

pub keys-put : (at : ℤ) (puts : List SpacePut) → Alters (map (set_space at) puts) (map put_key puts) []
keys-put at puts = record { own_is = own puts; whole_is = whole puts }
  where
    own : (ps : List SpacePut) → map put_key ps ≡ flat_map own_keys (map (set_space at) ps)
    own [] = refl
    own (p ∷ ps) = ap (λ l. put_key p ∷ l) (own ps)

    whole : (ps : List SpacePut) → [] ≡ flat_map whole_keys (map (set_space at) ps)
    whole [] = refl
    whole (p ∷ ps) = whole ps

pub keys-dropped : (paths : List (List ℕ)) → Alters (map DropSpace paths) (map Space paths) (map Space paths)
keys-dropped paths = record { own_is = own paths; whole_is = whole paths }
  where
    own : (ps : List (List ℕ)) → map Space ps ≡ flat_map own_keys (map DropSpace ps)
    own [] = refl
    own (p ∷ ps) = ap (λ l. Space p ∷ l) (own ps)

    whole : (ps : List (List ℕ)) → map Space ps ≡ flat_map whole_keys (map DropSpace ps)
    whole [] = refl
    whole (p ∷ ps) = ap (λ l. Space p ∷ l) (whole ps)

-- what is known about the keys at no moment is known at each
pub at-all : (P : Altered → Type 0) (r : Result Altered NoMemory) → IfOk r P → IfOk r (λ a. (at : ℤ) → P a)
at-all P (Ok a) h = λ at. h
at-all P (Err e) h = tt

-- ---- what an index keeps

-- only the door
pub marks-first : (a : Alterations) → a.own.places ≡ [] → a.whole.places ≡ [] → a.own.past ≡ 0 → a.whole.past ≡ 0 → a.watches.items ≡ [] → Marks a (door ∷ [])
marks-first a own whole own_past whole_past nobody = record {
  own = λ key. ap (λ ps. unwrap_or (lookup (same_key key) ps) []) own;
  whole = λ key. ap (λ ps. unwrap_or (lookup (same_key key) ps) []) whole;
  own_past = omega (arith, own_past);
  whole_past = omega (arith, whole_past);
  watched = subst (λ ws. All (IsCounted (door ∷ [])) ws) (sym nobody) (All-nil (IsCounted (door ∷ [])));
}

-- nothing was noted
pub marks-same : (a b : Alterations) (history : List Entry) → b.own.places ≡ a.own.places → b.whole.places ≡ a.whole.places → b.own.past ≡ a.own.past → b.whole.past ≡ a.whole.past → b.watches.items ≡ a.watches.items
    → Marks a history → Marks b history
marks-same a b history own whole own_past whole_past still m = record {
  own = λ key. ap (λ ps. unwrap_or (lookup (same_key key) ps) []) own ∙ m.own key;
  whole = λ key. ap (λ ps. unwrap_or (lookup (same_key key) ps) []) whole ∙ m.whole key;
  own_past = subst (λ n. n ≤ length history) (sym own_past) m.own_past;
  whole_past = subst (λ n. n ≤ length history) (sym whole_past) m.whole_past;
  watched = subst (λ ws. All (IsCounted history) ws) (sym still) m.watched;
}

-- other watches were set
pub marks-watched : (a b : Alterations) (history : List Entry) → b.own ≡ a.own → b.whole ≡ a.whole → All (IsCounted history) b.watches.items → Marks a history → Marks b history
marks-watched a b history own whole watched m = record {
  own = λ key. ap (λ i. places_of same_key i key) own ∙ m.own key;
  whole = λ key. ap (λ i. places_of same_key i key) whole ∙ m.whole key;
  own_past = subst (λ n. n ≤ length history) (sym (ap (λ i. i.past) own)) m.own_past;
  whole_past = subst (λ n. n ≤ length history) (sym (ap (λ i. i.past) whole)) m.whole_past;
  watched = watched;
}

-- the keys of one more entry were noted
pub marks-step : (a b : Alterations) (history : List Entry) (e : Entry) (own whole : List Key) (place : ℕ) → Marks a history → place ≡ length history → Alters (entry_changes e) own whole
    → ((key : Key) → places_of same_key b.own key ≡ (if list_any (same_key key) own then places_of same_key a.own key ++ place ∷ [] else places_of same_key a.own key))
    → ((key : Key) → places_of same_key b.whole key ≡ (if list_any (same_key key) whole then places_of same_key a.whole key ++ place ∷ [] else places_of same_key a.whole key))
    → b.own.past ≡ place + 1 → b.whole.past ≡ place + 1 → b.watches.items ≡ a.watches.items → Marks b (history ++ e ∷ [])
marks-step a b history e own whole place m at keys noted removed own_past whole_past still =
    let longer : length (history ++ e ∷ []) ≡ length history + 1 = grind (arith, common_steps) in
    record {
      own = λ key. noted key ∙ (λ j. if list_any (same_key key) (keys.own_is j) then m.own key j ++ at j ∷ [] else m.own key j) ∙ sym (places-go-on (entry_owns key) history e);
      whole = λ key. removed key ∙ (λ j. if list_any (same_key key) (keys.whole_is j) then m.whole key j ++ at j ∷ [] else m.whole key j) ∙ sym (places-go-on (entry_removes key) history e);
      own_past = omega (arith, own_past, longer, at);
      whole_past = omega (arith, whole_past, longer, at);
      watched = subst (λ ws. All (IsCounted (history ++ e ∷ [])) ws) (sym still) (all_later history e a.watches.items m.watched);
    }

-- it alters nothing
pub marks-frame : (a : Alterations) (history : List Entry) (e : Entry) → Marks a history → entry_changes e ≡ [] → Marks a (history ++ e ∷ [])
marks-frame a history e m still =
    let longer : length (history ++ e ∷ []) ≡ length history + 1 = grind (arith, common_steps) in
    let more_own = m.own_past in
    let more_whole = m.whole_past in
    record {
      own = λ key. m.own key ∙ sym (places-go-on (entry_owns key) history e ∙ ap (λ cs. if list_any (same_key key) (flat_map own_keys cs) then places_where (entry_owns key) 0 history ++ length history ∷ [] else places_where (entry_owns key) 0 history) still);
      whole = λ key. m.whole key ∙ sym (places-go-on (entry_removes key) history e ∙ ap (λ cs. if list_any (same_key key) (flat_map whole_keys cs) then places_where (entry_removes key) 0 history ++ length history ∷ [] else places_where (entry_removes key) 0 history) still);
      own_past = omega (arith, more_own, longer);
      whole_past = omega (arith, more_whole, longer);
      watched = all_later history e a.watches.items m.watched;
    }

-- ---- conflicts

pub conflict-step : (first : Option ℕ) (t : Touch) (ts : List Touch) (history : List Entry) → least (least first (clash t.key t.mark history)) (conflict ts history) ≡ least first (conflict (t ∷ ts) history)
conflict-step first t ts history = least-assoc first (clash t.key t.mark history) (conflict ts history)

pub least-none : (o : Option ℕ) → least o None ≡ o
least-none None = refl
least-none (Some a) = refl
