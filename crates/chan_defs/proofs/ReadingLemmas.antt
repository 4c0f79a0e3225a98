-- What reading the bytes says about the configuration; for the crates above too.
use Rattle.std.proofs.Common.{◌≡◌, ◌≤◌, ◌<◌, ℕ, List, [], ◌∷◌, ◌++◌, length, codes, Bool, true, false, ◌||◌, cond, Option, Some, None, option_and_then, Result, Err, refl, sym, ap, subst, ◌∙◌, nat_lt, arith}
use Rattle.std.proofs.lemmas.Bool.{false≢true}
use Rattle.std.proofs.lemmas.Bool.Decides.{nat_tests}
use Rattle.std.proofs.lemmas.Str.{is_utf8-from_IsUtf8, IsUtf8-from_is_utf8}
use Rattle.std.specs.Str.{IsUtf8, is_utf8}
use Rattle.toml.specs.Data.{Members}
use Rattle.toml.specs.Parse.{parse_document}
use Rattle.uuid.specs.Text.{parsed}
use Rattle.etp_values.specs.Gives.{Gives}
use Rattle.std.proofs.lemmas.List.Folds.{list_any-append}
use Rattle.etp_values.specs.SameUri.{same_uri, same_uri-equiv}
use Rattle.etp_values.specs.declared.uri.StoreUri.{StoreUri}
use Rattle.chan_defs.specs.Keys.{text_at, instance_of}
use Rattle.chan_defs.specs.Config.{next, or_else, table_of, config_of, defs, is_taken}
use Rattle.server_config.specs.declared.config.Config.{Config}
use Rattle.server_config.specs.declared.config.ChannelDef.{ChannelDef}
use Rattle.chan_defs.specs.declared.error.DefsError.{DefsError}
use Rattle.chan_defs.specs.declared.error.DefsError.TheVariants.{TooLong, Toml, NoMemory}

none_of : {A : Type 0} (o : Option A) → ((u : A) × (o ≡ Some u) → false ≡ true) → o ≡ None
none_of None h = refl
none_of (Some x) h = absurd (false≢true (h (x, refl)))

-- a text that is not an identifier
pub instance_refused : (t : Members) (s : List ℕ) → Some s ≡ text_at (codes "instance") t → ((u : List ℕ) × (parsed s ≡ Some u) → false ≡ true) → None ≡ instance_of t
instance_refused t s found h = sym (ap (option_and_then parsed) (sym found) ∙ none_of (parsed s) h)

-- ---- the whole file

short : (b : List ℕ) → length b ≤ 1048576 → nat_lt 1048576 (length b) ≡ false
short b h = grind (arith, nat_tests)

pub defs_long : (b : List ℕ) → 1048576 < length b → defs b ≡ Err TooLong
unfolding defs
defs_long b h = let long : nat_lt 1048576 (length b) ≡ true = grind (arith, nat_tests) in rw long refl

defs_short : (b : List ℕ) → length b ≤ 1048576 → defs b ≡ next (or_else Toml (table_of b)) config_of
unfolding defs
defs_short b h = rw (short b h) refl

pub defs_read : (b : List ℕ) (t : Members) (r : Result Config DefsError) → length b ≤ 1048576 → IsUtf8 b → parse_document b ≡ Some t
    → Gives NoMemory r (config_of t) → Gives NoMemory r (defs b)
defs_read b t r h u p given =
    let table : table_of b ≡ Some t = rw (is_utf8-from_IsUtf8 b u) p in
    subst (Gives NoMemory r) (sym (defs_short b h ∙ ap (λ (o : Option Members). next (or_else Toml o) config_of) table)) given

pub defs_toml : (b : List ℕ) → length b ≤ 1048576 → (IsUtf8 b → parse_document b ≡ None) → defs b ≡ Err Toml
defs_toml b h p = defs_short b h ∙ ap (λ (o : Option Members). next (or_else Toml o) config_of) (go (is_utf8 b) refl)
  where
    go : (v : Bool) → is_utf8 b ≡ v → table_of b ≡ None
    go true e = rw e (p (IsUtf8-from_is_utf8 b e))
    go false e = rw e refl

-- ---- the set of taken URIs

join : (a b : Bool) → cond a true b ≡ (b || (a || false))
join true true = refl
join true false = refl
join false true = refl
join false false = refl

-- one more channel takes its own URI and no other
pub put_taken : (before after : StoreUri → Bool) (key : StoreUri) (c : ChannelDef) (channels : List ChannelDef) → key ≡ c.uri
    → ((q : StoreUri) → after q ≡ cond (same_uri key q) true (before q)) → ((q : StoreUri) → before q ≡ is_taken q channels)
    → (q : StoreUri) → after q ≡ is_taken q (channels ++ c ∷ [])
put_taken before after key c channels key_is step told q =
    let test : same_uri key q ≡ same_uri q c.uri = ap (λ (k : StoreUri). same_uri k q) key_is ∙ same_uri-equiv.symm c.uri q in
    step q ∙ ap (λ a. cond a true (before q)) test ∙ ap (λ b. cond (same_uri q c.uri) true b) (told q) ∙ join (same_uri q c.uri) (is_taken q channels)
    ∙ sym (list_any-append (λ (d : ChannelDef). same_uri q d.uri) channels (c ∷ []))
