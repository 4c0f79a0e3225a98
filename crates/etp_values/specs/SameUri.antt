-- Which URIs are the same; for the crates above too. The derived comparisons compute to these tests, so a table with URIs as keys looks up
-- by them.
use Rattle.std.specs.Prelude.{ℕ, Bool, true, List, ◌≡◌, ◌&&◌, Option, Some, None, refl}
use Rattle.std.proofs.Common.{ap}
use Rattle.std.proofs.lemmas.Bool.{false≢true, and_parts}
use Rattle.std.proofs.lemmas.Slice.Eq.{bytes_eq-Decides}
use Rattle.std.specs.Cmp.{IsEquivalence, and_equiv, on_equiv}
use Rattle.std.specs.Cmp.Lexicographic.{nat_list_eq_equiv, options_equiv}
use Rattle.std.specs.Str.{bytes_eq}
use Rattle.std.specs.Option.{option_eq}
use Rattle.etp_values.specs.declared.uri.ObjectName.{ObjectName}
use Rattle.etp_values.specs.declared.uri.StoreUri.{StoreUri}

-- two names of objects have the same domain, type's name and identifier
abbrev pub same_name : ObjectName → ObjectName → Bool
same_name a b = bytes_eq a.domain b.domain && (bytes_eq a.name b.name && bytes_eq a.id b.id)

-- two URIs have the same dataspace, and the same object or none
abbrev pub same_uri : StoreUri → StoreUri → Bool
same_uri u v = bytes_eq u.space v.space && option_eq same_name u.object v.object

-- ---- they are equivalences

pub same_name-equiv : IsEquivalence same_name
same_name-equiv = and_equiv (on_equiv (λ n. n.domain) nat_list_eq_equiv) (and_equiv (on_equiv (λ n. n.name) nat_list_eq_equiv) (on_equiv (λ n. n.id) nat_list_eq_equiv))

pub same_uri-equiv : IsEquivalence same_uri
same_uri-equiv = and_equiv (on_equiv (λ u. u.space) nat_list_eq_equiv) (on_equiv (λ u. u.object) (options_equiv same_name-equiv))

-- ---- what is the same is equal

pub text_is : (x y : List ℕ) → bytes_eq x y ≡ true → x ≡ y
text_is x y h = (bytes_eq-Decides x y).0 h

pub same_name-is : (a b : ObjectName) → same_name a b ≡ true → a ≡ b
same_name-is a b h =
    let outer = and_parts (bytes_eq a.domain b.domain) (bytes_eq a.name b.name && bytes_eq a.id b.id) h in
    let inner = and_parts (bytes_eq a.name b.name) (bytes_eq a.id b.id) outer.1 in
    let domain = text_is a.domain b.domain outer.0 in
    let name = text_is a.name b.name inner.0 in
    let id = text_is a.id b.id inner.1 in
    (λ j. record { domain = domain j; name = name j; id = id j })

object_is : (a b : Option ObjectName) → option_eq same_name a b ≡ true → a ≡ b
object_is None None h = refl
object_is None (Some b) h = absurd (false≢true h)
object_is (Some a) None h = absurd (false≢true h)
object_is (Some a) (Some b) h = ap Some (same_name-is a b h)

pub same_uri-is : (u v : StoreUri) → same_uri u v ≡ true → u ≡ v
same_uri-is u v h =
    let parts = and_parts (bytes_eq u.space v.space) (option_eq same_name u.object v.object) h in
    let space = text_is u.space v.space parts.0 in
    let object = object_is u.object v.object parts.1 in
    (λ j. record { space = space j; object = object j })
