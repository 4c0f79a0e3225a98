-- The ids of channels by their URIs: put there one by one, and kept by every change.
use Rattle.std.proofs.Common.{◌≡◌, ℕ, suc, Bool, true, false, cond, List, [], ◌∷◌, Option, Some, None, Result, Ok, Err, refl, ap, sym, ◌∙◌, if◌then◌else◌}
use Rattle.std.specs.Prelude.{ℤ, pos, MatchResult, is_some, map}
use Rattle.std.specs.Map.{lookup}
use Rattle.std.specs.Option.{option_or}
use Rattle.etp_values.proofs.BoolLemmas.{by_test}
use Rattle.etp_values.specs.declared.uri.StoreUri.{StoreUri}
use Rattle.etp_values.specs.SameUri.{same_uri, same_uri-equiv}
use Rattle.server_config.specs.declared.config.ChannelDef.{ChannelDef}
use Rattle.channel_store.specs.declared.change.What.{What}
use Rattle.channel_store.specs.declared.error.ChannelError.{ChannelError}
use Rattle.channel_store.specs.Channels.{Channel, fresh}
use Rattle.channel_store.specs.Rows.{Row}
use Rattle.channel_store.specs.Store.{by_number, changed, first_place, happens, id_of}
use Rattle.channel_store.specs.Sweeps.{shown_of}
use Rattle.channel_store.specs.Tables.{HasIds, IsStore, PutsId}
use Rattle.channel_store.proofs.CallLemmas.{Called}

-- ---- a change leaves the ids

uri-stays : (place : ℕ) (id at : ℤ) (c : Channel) (o : Option What) → (happens place id at c o).uri ≡ c.uri
uri-stays place id at c None = refl
uri-stays place id at c (Some w) = refl

first-changed : (u : StoreUri) (place : ℕ) (at : ℤ) (what : ℤ → Option What) (n : ℕ) (cs : List Channel)
    → first_place (λ (c : Channel). same_uri u c.uri) n (by_number (λ k c. happens place (pos k) at c (what (pos k))) n cs) ≡ first_place (λ (c : Channel). same_uri u c.uri) n cs
first-changed u place at what n [] = refl
first-changed u place at what n (c ∷ cs) = (λ j. if same_uri u (uri-stays place (pos n) at c (what (pos n)) j) then Some (pos n) else first-changed u place at what (suc n) cs j)

-- after a call
pub ids-stay : (u : StoreUri) (r : Result (Unit {0}) ChannelError) (new cs : List Channel) (place : ℕ) (at : ℤ) (what : ℤ → Option What)
    → MatchResult r (λ _. new ≡ changed place at what cs) (λ _. new ≡ cs) → id_of u new ≡ id_of u cs
ids-stay u (Ok x) new cs place at what h = ap (id_of u) h ∙ first-changed u place at what 0 cs
ids-stay u (Err e) new cs place at what h = ap (id_of u) h

pub is-store : {r : Result (Unit {0}) ChannelError} {new : List Row} {cs : List Channel} {refusal : Option ChannelError} {place : ℕ} {at : ℤ} {what : ℤ → Option What} (ids : List (StoreUri × ℤ)) (old : List Row)
    → IsStore ids old → shown_of old ≡ cs → Called r new cs refusal place at what → IsStore ids new
is-store {r} {new} {cs} {refusal} {place} {at} {what} ids old kept view called = record {
  idle = called.idle;
  finds = λ u. kept.finds u ∙ ap (id_of u) view ∙ sym (ids-stay u r (shown_of new) cs place at what called.store);
}

-- ---- one id is put

or-none : (o : Option ℤ) → option_or o None ≡ o
or-none None = refl
or-none (Some x) = refl

or-some : (o p : Option ℤ) → is_some o ≡ true → option_or o p ≡ o
or-some None p h = absurd (cc)
or-some (Some x) p h = refl

same-found : (ids : List (StoreUri × ℤ)) (u v : StoreUri) → same_uri u v ≡ true → lookup (same_uri u) ids ≡ lookup (same_uri v) ids
same-found ids u v h = λ j. lookup (λ z. same_uri-equiv.congr u v z h j) ids

-- there is one already
pub put_there : (uri : StoreUri) (id : ℤ) (ids : List (StoreUri × ℤ)) → is_some (lookup (same_uri uri) ids) ≡ true → PutsId uri id ids ids
put_there uri id ids there u =
    by_test (same_uri u uri)
    (λ h. sym (ap (λ b. option_or (lookup (same_uri u) ids) (if b then Some id else None)) h ∙ or-some (lookup (same_uri u) ids) (Some id) (ap is_some (same-found ids u uri h) ∙ there)))
    (λ h. sym (ap (λ b. option_or (lookup (same_uri u) ids) (if b then Some id else None)) h ∙ or-none (lookup (same_uri u) ids)))

-- there is none
none-or : (o p : Option ℤ) → is_some o ≡ false → p ≡ option_or o p
none-or None p h = refl
none-or (Some x) p h = absurd (cc)

pub put_new : (uri : StoreUri) (id : ℤ) (ids new : List (StoreUri × ℤ)) → is_some (lookup (same_uri uri) ids) ≡ false
    → ((u : StoreUri) → lookup (same_uri u) new ≡ cond (same_uri uri u) (Some id) (lookup (same_uri u) ids)) → PutsId uri id ids new
put_new uri id ids new none put u =
    put u ∙ by_test (same_uri u uri)
    (λ h.
    ap (λ b. cond b (Some id) (lookup (same_uri u) ids)) (same_uri-equiv.symm uri u ∙ h)
    ∙ none-or (lookup (same_uri u) ids) (Some id) (ap is_some (same-found ids u uri h) ∙ none)
    ∙ sym (ap (λ b. option_or (lookup (same_uri u) ids) (if b then Some id else None)) h))
    (λ h.
    ap (λ b. cond b (Some id) (lookup (same_uri u) ids)) (same_uri-equiv.symm uri u ∙ h)
    ∙ sym (or-none (lookup (same_uri u) ids))
    ∙ sym (ap (λ b. option_or (lookup (same_uri u) ids) (if b then Some id else None)) h))

-- ---- those of all definitions

-- the ids that were put, or those of the definitions that are left
abbrev pub PutUpTo : List (StoreUri × ℤ) → ℕ → List ChannelDef → List ChannelDef → Type 0
PutUpTo ids n rest defs = (u : StoreUri) → option_or (lookup (same_uri u) ids) (first_place (λ (c : Channel). same_uri u c.uri) n (map fresh rest)) ≡ id_of u (map fresh defs)

either-next : (o : Option ℤ) (b : Bool) (id : ℤ) (rest : Option ℤ) → option_or (option_or o (if b then Some id else None)) rest ≡ option_or o (if b then Some id else rest)
either-next (Some x) b id rest = refl
either-next None true id rest = refl
either-next None false id rest = refl

pub ids_next : (ids new : List (StoreUri × ℤ)) (n m : ℕ) (id : ℤ) (d : ChannelDef) (whole rest defs : List ChannelDef)
    → PutUpTo ids n whole defs → whole ≡ d ∷ rest → m ≡ suc n → id ≡ pos n → PutsId d.uri id ids new → PutUpTo new m rest defs
ids_next ids new n m id d whole rest defs so split next is puts u =
    ap (λ k. option_or (lookup (same_uri u) new) (first_place (λ (c : Channel). same_uri u c.uri) k (map fresh rest))) next
    ∙ ap (λ o. option_or o (first_place (λ (c : Channel). same_uri u c.uri) (suc n) (map fresh rest))) (puts u)
    ∙ ap (λ i. option_or (option_or (lookup (same_uri u) ids) (if same_uri u d.uri then Some i else None)) (first_place (λ (c : Channel). same_uri u c.uri) (suc n) (map fresh rest))) is
    ∙ either-next (lookup (same_uri u) ids) (same_uri u d.uri) (pos n) (first_place (λ (c : Channel). same_uri u c.uri) (suc n) (map fresh rest))
    ∙ ap (λ l. option_or (lookup (same_uri u) ids) (first_place (λ (c : Channel). same_uri u c.uri) n (map fresh l))) (sym split)
    ∙ so u

pub ids_done : (ids : List (StoreUri × ℤ)) (n : ℕ) (rest defs : List ChannelDef) → PutUpTo ids n rest defs → rest ≡ [] → HasIds ids (map fresh defs)
ids_done ids n rest defs so none u = sym (or-none (lookup (same_uri u) ids)) ∙ ap (λ l. option_or (lookup (same_uri u) ids) (first_place (λ (c : Channel). same_uri u c.uri) n (map fresh l))) (sym none) ∙ so u
