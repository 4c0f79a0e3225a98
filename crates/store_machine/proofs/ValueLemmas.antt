-- The value of a key after further changes, and after further entries.
use Rattle.std.specs.Prelude.{ℕ, Bool, true, false, cond, List, [], ◌∷◌, ◌++◌, ◌≡◌, Option, Some, fold, filter, refl, is_none}
use Rattle.std.specs.List.{list_any}
use Rattle.std.proofs.Common.{ap, ◌∙◌, append-nil}
use Rattle.std.proofs.lemmas.List.Elements.{filter-append}
use Rattle.std.proofs.lemmas.List.Sums.{fold-append}
use Rattle.std.proofs.lemmas.List.Concat.{flat_map-append}
use Rattle.std.proofs.Math.Bool.{and-false}
use Rattle.tx_stage.proofs.AlteredLemmas.{none-pass}
use Rattle.array_store.specs.Refusals.{record_refusal}
use Rattle.etp_values.specs.SameUri.{same_uri}
use Rattle.object_store.specs.Tables.{default_dataspace}
use Rattle.tx_stage.specs.declared.key.Key.{Key}
use Rattle.tx_stage.specs.declared.key.Key.TheVariants.{Space, Object, Array}
use Rattle.tx_stage.specs.declared.op.OpWhat.{OpWhat}
use Rattle.tx_stage.specs.declared.op.OpWhat.TheVariants.{SetObject, SetArray, Patch, Gone}
use Rattle.tx_stage.specs.declared.value.Value.{Value}
use Rattle.tx_stage.specs.declared.value.Value.TheVariants as valued
use Rattle.tx_stage.specs.Ops.{alters_by}
use Rattle.tx_stage.specs.State.{first}
use Rattle.store_machine.specs.declared.journal.Entry.{Entry}
use Rattle.store_machine.specs.History.{Change, SetSpace, DropSpace, Operate, alters, left, value, entry_changes, changes_of, value_after, entry_alters}

pub value-append : (key : Key) (before later : List Change) → value key (before ++ later) ≡ fold left (value key before) (filter (λ c. alters c key) later)
value-append key before later =
    ap (fold left (first key)) (filter-append (λ c. alters c key) before later) ∙ fold-append left (first key) (filter (λ c. alters c key) before) (filter (λ c. alters c key) later)

pub value-push : (key : Key) (before : List Change) (c : Change) → value key (before ++ c ∷ []) ≡ cond (alters c key) (left (value key before) c) (value key before)
value-push key before c = value-append key before (c ∷ []) ∙ by (alters c key)
  where
    by : (b : Bool) → fold left (value key before) (cond b (c ∷ []) []) ≡ cond b (left (value key before) c) (value key before)
    by true = refl
    by false = refl

-- changes that don't alter the key
pub value-unaltered : (key : Key) (before later : List Change) → list_any (λ c. alters c key) later ≡ false → value key (before ++ later) ≡ value key before
value-unaltered key before later h = value-append key before later ∙ ap (fold left (value key before)) (none-pass (λ c. alters c key) later h)

-- the changes of one more entry
pub changes-push : (history : List Entry) (e : Entry) → changes_of (history ++ e ∷ []) ≡ changes_of history ++ entry_changes e
changes-push history e = flat_map-append entry_changes history (e ∷ []) ∙ ap (λ l. changes_of history ++ l) (append-nil (entry_changes e))

-- an entry that doesn't alter the key
pub value_after-push : (key : Key) (history : List Entry) (e : Entry) → entry_alters key e ≡ false → value_after key (history ++ e ∷ []) ≡ value_after key history
value_after-push key history e h = ap (value key) (changes-push history e) ∙ value-unaltered key (changes_of history) (entry_changes e) h

-- no operation alters a dataspace
pub elsewhere : (own : Key) (what : OpWhat) (q : List ℕ) → alters_by own what (Space q) ≡ false
elsewhere (Space p) (SetObject r) q = refl
elsewhere (Space p) (SetArray r) q = refl
elsewhere (Space p) (Patch ss cs vs) q = refl
elsewhere (Space p) Gone q = refl
elsewhere (Object u) (SetObject r) q = and-false (same_uri u r.uri)
elsewhere (Object u) (SetArray r) q = refl
elsewhere (Object u) (Patch ss cs vs) q = refl
elsewhere (Object u) Gone q = refl
elsewhere (Array k) (SetObject r) q = refl
elsewhere (Array k) (SetArray r) q = and-false (is_none (record_refusal r))
elsewhere (Array k) (Patch ss cs vs) q = refl
elsewhere (Array k) Gone q = refl

-- no change alters the value of the default dataspace
default-fold : (cs : List Change) (v : Option Value) → fold left v (filter (λ c. alters c (Space [])) cs) ≡ v
default-fold [] v = refl
default-fold (SetSpace [] custom at ∷ cs) v = default-fold cs v
default-fold (SetSpace (b ∷ bs) custom at ∷ cs) v = default-fold cs v
default-fold (DropSpace [] ∷ cs) v = default-fold cs v
default-fold (DropSpace (b ∷ bs) ∷ cs) v = default-fold cs v
default-fold (Operate o ∷ cs) v = ap (λ b. fold left v (cond b (Operate o ∷ filter (λ c. alters c (Space [])) cs) (filter (λ c. alters c (Space [])) cs))) (elsewhere o.key o.what []) ∙ default-fold cs v

pub default-stays : (changes : List Change) → value (Space []) changes ≡ Some (valued.Space default_dataspace)
default-stays changes = default-fold changes (Some (valued.Space default_dataspace))
