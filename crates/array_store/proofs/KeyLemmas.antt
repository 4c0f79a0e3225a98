-- The test by which the table finds a key is `same_key`, and what a look-up finds after a change; for the crates above too.
use Rattle.std.specs.Prelude.{ℤ, List, Bool, true, false, cond, ◌≡◌, refl, Option, Some, None}
use Rattle.std.proofs.Common.{ap, sym, ◌∙◌}
use Rattle.std.specs.Option.{option_map}
use Rattle.std.specs.Cmp.{IsEquivalence, and_equiv, on_equiv}
use Rattle.std.specs.Cmp.Lexicographic.{nat_list_eq_equiv}
use Rattle.std.specs.Str.{bytes_eq}
use Rattle.std.specs.Map.{lookup}
use Rattle.std.proofs.lemmas.Slice.Eq.{bytes_eq-Decides}
use Rattle.std.proofs.lemmas.Bool.{and_parts}
use Rattle.etp_values.specs.declared.data.AnyArray.{AnyArray}
use Rattle.etp_values.specs.SameUri.{same_uri, same_uri-equiv, same_uri-is}
use Rattle.etp_values.proofs.LookupLemmas.{found_set}
use Rattle.array_store.specs.declared.key.ArrayKey.{ArrayKey}
use Rattle.array_store.specs.declared.record.ArrayRecord.{ArrayRecord}
use Rattle.array_store.specs.contracts.key.ArrayKeyPartialEq.TheImpl.{ghosts}
use Rattle.array_store.specs.Table.{same_key, patched_in_place, PatchesAmong}

pub key_test : ghosts.eq ≡ same_key
key_test = refl

pub same_key-equiv : IsEquivalence same_key
same_key-equiv = and_equiv (on_equiv (λ k. k.uri) same_uri-equiv) (on_equiv (λ k. k.path) nat_list_eq_equiv)

-- keys that are the same are equal
pub same_key-is : (a b : ArrayKey) → same_key a b ≡ true → a ≡ b
same_key-is a b h =
    let parts = and_parts (same_uri a.uri b.uri) (bytes_eq a.path b.path) h in
    let uri = same_uri-is a.uri b.uri parts.0 in
    let path = (bytes_eq-Decides a.path b.path).0 parts.1 in
    (λ j. record { uri = uri j; path = path j })

-- what the table found is what the definition finds
pub found_is : (es : List (ArrayKey × ArrayRecord)) (key : ArrayKey) (r : ArrayRecord) → lookup (ghosts.eq key) es ≡ Some r → lookup (same_key key) es ≡ Some r
found_is es key r h = h

-- what was written is at its key
pub written_is : (es new : List (ArrayKey × ArrayRecord)) (key q : ArrayKey) (w : ArrayRecord) → lookup (ghosts.eq q) new ≡ cond (ghosts.eq key q) (Some w) (lookup (ghosts.eq q) es)
    → lookup (same_key q) new ≡ cond (same_key q key) (Some w) (lookup (same_key q) es)
written_is es new key q w h = found_set same_key same_key-equiv w key q (lookup (same_key q) es) (lookup (same_key q) new) h

-- ---- a patch at a key

none_patched : (f : ArrayRecord → ArrayRecord) (b : Bool) (before : Option ArrayRecord) → (b ≡ true → before ≡ None) → before ≡ cond b (option_map f before) before
none_patched f true before none = none refl ∙ sym (ap (option_map f) (none refl))
none_patched f false before none = refl

some_patched : (f : ArrayRecord → ArrayRecord) (b : Bool) (before now : Option ArrayRecord) (array w : ArrayRecord) → now ≡ cond b (Some w) before → w ≡ f array → (b ≡ true → before ≡ Some array)
    → now ≡ cond b (option_map f before) before
some_patched f true before now array w is made found = is ∙ ap (λ (r : ArrayRecord). Some r) made ∙ sym (ap (option_map f) (found refl))
some_patched f false before now array w is made found = is

at_key : (es : List (ArrayKey × ArrayRecord)) (key q : ArrayKey) (found : Option ArrayRecord) → lookup (ghosts.eq key) es ≡ found → same_key q key ≡ true → lookup (same_key q) es ≡ found
at_key es key q found h same = ap (λ k. lookup (same_key k) es) (same_key-is q key same) ∙ h

-- if it has no array
pub none_written : (es new : List (ArrayKey × ArrayRecord)) (key : ArrayKey) (at : ℤ) (ss cs : List ℤ) (values : AnyArray) → new ≡ es → lookup (ghosts.eq key) es ≡ None → PatchesAmong es new key at ss cs values
none_written es new key at ss cs values same none = λ q.
    ap (lookup (same_key q)) same ∙ none_patched (patched_in_place at ss cs values) (same_key q key) (lookup (same_key q) es) (at_key es key q None none)

-- if what was written is what a patch leaves of it
pub patch_written : (es new : List (ArrayKey × ArrayRecord)) (key : ArrayKey) (array w : ArrayRecord) (at : ℤ) (ss cs : List ℤ) (values : AnyArray) → lookup (ghosts.eq key) es ≡ Some array
    → w ≡ patched_in_place at ss cs values array → ((q : ArrayKey) → lookup (same_key q) new ≡ cond (same_key q key) (Some w) (lookup (same_key q) es)) → PatchesAmong es new key at ss cs values
patch_written es new key array w at ss cs values found made each = λ q.
    some_patched (patched_in_place at ss cs values) (same_key q key) (lookup (same_key q) es) (lookup (same_key q) new) array w (each q) made (at_key es key q (Some array) found)
