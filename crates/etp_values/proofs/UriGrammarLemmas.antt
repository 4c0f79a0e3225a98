-- A text reads as a URI exactly if it is one of the URI's texts.
use Rattle.std.proofs.Common.{◌≡◌, ◌≢◌, ◌≤◌, ◌<◌, ◌-◌, ℕ, List, [], ◌∷◌, ◌++◌, length, get_or, take, drop, append_assoc, append-nil, length-append, codes, Bool, true, false, ◌&&◌, nat_eq, nat_lt, nat_le, Option, Some, None, IfSome, IfOk, not, lit≤, option_map, option_and_then, unwrap_or, Result, Ok, Err, if◌then◌else◌, refl, sym, ap, subst, ◌∙◌, inl, inr, arith, true≢false, ◌⊎◌}
use Rattle.std.proofs.lemmas.Bool.{cases_Bool, eqb-true, and_parts}
use Rattle.std.proofs.lemmas.Bool.Decides.{nat_tests}
use Rattle.std.proofs.lemmas.List.{take-append-drop}
use Rattle.std.specs.List.{list_all, list_any, common_prefix_len}
use Rattle.std.specs.Result.{result_unwrap_or}
use Rattle.etp_values.specs.Gives.{Gives}
use Rattle.etp_values.specs.IdText.{id_of, id_text}
use Rattle.etp_values.specs.Uri.{after, parted, up_to, unquoted, doubled, closed, is_path, path_of, space_part, object_part, object_text, behind, text_in, plain_uri, IsTextIn, IsTextOf, IsObjectName, IsUri, is_lower, is_digit, is_letter, is_word, is_domain, is_type_name, id_at, whole_object, with_id, type_at, with_type, object_of, in_space, with_slash, with_rest, with_path, in_default, with_space, with_body, uri_of}
use Rattle.etp_values.specs.declared.uri.ObjectName.{ObjectName}
use Rattle.etp_values.specs.declared.uri.StoreUri.{StoreUri}
use Rattle.etp_values.specs.declared.uri.UriError.{UriError}
use Rattle.etp_values.specs.declared.uri.UriError.TheVariants.{TooLong, Prefix, NoMemory}
use Rattle.etp_values.proofs.IdTextLemmas.{if_some, id_of_says, id_of-id_text, length-id_text}
use Rattle.etp_values.proofs.UriPartLemmas.{Lacks, Lacks-from_places, after_found, after_says, parted_at, parted_says, unquoted_doubled, unquoted_says}

-- the value of an answer
ok_is : {A : Type 0} (r : Result A UriError) (x y : A) → r ≡ Ok x → r ≡ Ok y → x ≡ y
ok_is r x y e f = ap (λ q. result_unwrap_or q x) (sym e ∙ f)

-- ---- marks that a form does not contain

Lacks-from_test : (test : ℕ → Bool) (mark : ℕ) (s : List ℕ) → test mark ≡ false → list_all test s ≡ true → Lacks mark s
Lacks-from_test test mark [] fails all = tt
Lacks-from_test test mark (c ∷ cs) fails all =
    let step = and_parts (test c) (list_all test cs) all in
    (go (cases_Bool (nat_eq c mark)), Lacks-from_test test mark cs fails step.1)
  where
    go : (nat_eq c mark ≡ true) ⊎ (nat_eq c mark ≡ false) → nat_eq c mark ≡ false
    go (inl same) = absurd (true≢false (sym (and_parts (test c) (list_all test cs) all).0 ∙ ap test (eqb-true c mark same) ∙ fails))
    go (inr other) = other

Lacks-append : (mark : ℕ) (a b : List ℕ) → Lacks mark a → Lacks mark b → Lacks mark (a ++ b)
Lacks-append mark [] b h k = k
Lacks-append mark (c ∷ a) b h k = (h.0, Lacks-append mark a b h.1 k)

-- a domain is letters and digits
domain_lacks : (mark : ℕ) (d : List ℕ) → is_lower mark ≡ false → is_digit mark ≡ false → is_domain d ≡ true → Lacks mark d
domain_lacks mark d no_letter no_digit e =
    let n = length d - 2 in
    let outer = and_parts (nat_le 3 (length d) && list_all is_lower (take n d)) (list_all is_digit (drop n d)) e in
    let letters = (and_parts (nat_le 3 (length d)) (list_all is_lower (take n d)) outer.0).1 in
    subst (Lacks mark) (take-append-drop n d)
    (Lacks-append mark (take n d) (drop n d) (Lacks-from_test is_lower mark (take n d) no_letter letters) (Lacks-from_test is_digit mark (drop n d) no_digit outer.1))

word_of_letter : (c : ℕ) → is_letter c ≡ true → is_word c ≡ true
word_of_letter c e = rw e refl

type_lacks : (s : List ℕ) → is_type_name s ≡ true → Lacks 40 s
type_lacks [] e = tt
type_lacks (c ∷ cs) e =
    let step = and_parts (is_letter c) (list_all is_word cs) e in
    let first : list_all is_word (c ∷ []) ≡ true = rw (word_of_letter c step.0) refl in
    Lacks-append 40 (c ∷ []) cs (Lacks-from_test is_word 40 (c ∷ []) refl first) (Lacks-from_test is_word 40 cs refl step.1)

-- ---- an object's part

part_is : (n : ObjectName) (digits : List ℕ) → object_part n digits ≡ n.domain ++ 46 ∷ (n.name ++ 40 ∷ (digits ++ 41 ∷ []))
part_is n digits = simp append_assoc

up_to_found : (mark : ℕ) (form : List ℕ → Bool) (x y : List ℕ) → Lacks mark x → form x ≡ true → up_to mark form (x ++ mark ∷ y) ≡ Some (x, y)
up_to_found mark form x y lacks passes = rw (parted_at mark x y lacks, passes) refl

record IsUpTo (mark : ℕ) (form : List ℕ → Bool) (s : List ℕ) (p : List ℕ × List ℕ) : Type 0 where
  whole : s ≡ p.0 ++ mark ∷ p.1
  form_of : form p.0 ≡ true

up_to_says : (mark : ℕ) (form : List ℕ → Bool) (s : List ℕ) (p : List ℕ × List ℕ) → up_to mark form s ≡ Some p → IsUpTo mark form s p
up_to_says mark form s p e = go (parted mark s) refl e
  where
    go : (o : Option (List ℕ × List ℕ)) → parted mark s ≡ o → option_and_then (λ q. if form q.0 then Some q else None) o ≡ Some p → IsUpTo mark form s p
    go None q e = cc
    go (Some x) q e =
        let step = if_some (form x.0) (Some x) p e in
        let same : x ≡ p = ap (λ o. unwrap_or o p) step.1 in
        subst (IsUpTo mark form s) same (record { whole = parted_says mark s x.0 x.1 q; form_of = step.0 })

type_at_found : (n : ObjectName) (rest : List ℕ) → is_domain n.domain ≡ true → is_type_name n.name ≡ true
    → type_at (n.domain ++ 46 ∷ (n.name ++ 40 ∷ rest)) ≡ Some (n.domain, (n.name, rest))
type_at_found n rest domain name =
    rw (up_to_found 46 is_domain n.domain (n.name ++ 40 ∷ rest) (domain_lacks 46 n.domain refl refl domain) domain)
    (rw (up_to_found 40 is_type_name n.name rest (type_lacks n.name name) name) refl)

record IsTypeAt (s : List ℕ) (p : List ℕ × (List ℕ × List ℕ)) : Type 0 where
  whole : s ≡ p.0 ++ 46 ∷ (p.1.0 ++ 40 ∷ p.1.1)
  domain : is_domain p.0 ≡ true
  name : is_type_name p.1.0 ≡ true

type_at_says : (s : List ℕ) (p : List ℕ × (List ℕ × List ℕ)) → type_at s ≡ Some p → IsTypeAt s p
type_at_says s p e = go (up_to 46 is_domain s) refl e
  where
    named : (d : List ℕ × List ℕ) → IsUpTo 46 is_domain s d → (o : Option (List ℕ × List ℕ)) → up_to 40 is_type_name d.1 ≡ o
        → option_map (λ (t : List ℕ × List ℕ). (d.0, t)) o ≡ Some p → IsTypeAt s p
    named d found None q e = cc
    named d found (Some t) q e =
        let same : (d.0, t) ≡ p = ap (λ o. unwrap_or o p) e in
        let part = up_to_says 40 is_type_name d.1 t q in
        subst (IsTypeAt s) same (record { whole = found.whole ∙ ap (λ z. d.0 ++ 46 ∷ z) part.whole; domain = found.form_of; name = part.form_of })

    go : (o : Option (List ℕ × List ℕ)) → up_to 46 is_domain s ≡ o
        → option_and_then (λ d. option_map (λ (t : List ℕ × List ℕ). (d.0, t)) (up_to 40 is_type_name d.1)) o ≡ Some p → IsTypeAt s p
    go None q e = cc
    go (Some d) q e = named d (up_to_says 46 is_domain s d q) (up_to 40 is_type_name d.1) refl e

id_at_found : (digits rest id : List ℕ) → id_of digits ≡ Some id → id_at (digits ++ 41 ∷ rest) ≡ Some (id, rest)
id_at_found digits rest id e =
    let lacks = Lacks-from_places 41 digits (id_of_says digits id e).closed in
    rw (parted_at 41 digits rest lacks) (rw e refl)

record IsIdAt (s : List ℕ) (p : List ℕ × List ℕ) : Type 0 where
  digits : List ℕ
  whole : s ≡ digits ++ 41 ∷ p.1
  said : id_of digits ≡ Some p.0

id_at_says : (s : List ℕ) (p : List ℕ × List ℕ) → id_at s ≡ Some p → IsIdAt s p
id_at_says s p e = go (parted 41 s) refl e
  where
    read : (q : List ℕ × List ℕ) → parted 41 s ≡ Some q → (o : Option (List ℕ)) → id_of q.0 ≡ o → option_map (λ (id : List ℕ). (id, q.1)) o ≡ Some p → IsIdAt s p
    read q parts None said e = cc
    read q parts (Some id) said e =
        let same : (id, q.1) ≡ p = ap (λ o. unwrap_or o p) e in
        subst (IsIdAt s) same (record { digits = q.0; whole = parted_says 41 s q.0 q.1 parts; said = said })

    go : (o : Option (List ℕ × List ℕ)) → parted 41 s ≡ o → option_and_then (λ q. option_map (λ (id : List ℕ). (id, q.1)) (id_of q.0)) o ≡ Some p → IsIdAt s p
    go None q e = cc
    go (Some x) q e = read x q (id_of x.0) refl e

pub object_found : (whole : ℕ) (n : ObjectName) (digits : List ℕ) → is_domain n.domain ≡ true → is_type_name n.name ≡ true → id_of digits ≡ Some n.id
    → object_of whole (object_part n digits) ≡ Ok n
object_found whole n digits domain name said =
    rw (part_is n digits) (rw (type_at_found n (digits ++ 41 ∷ []) domain name) (rw (id_at_found digits [] n.id said) refl))

-- what a read object says about its part
pub record IsObjectPart (n : ObjectName) (s : List ℕ) : Type 0 where
  digits : List ℕ
  said : id_of digits ≡ Some n.id
  whole : s ≡ object_part n digits
  form : IsObjectName n

pub object_says : (whole : ℕ) (s : List ℕ) (n : ObjectName) → object_of whole s ≡ Ok n → IsObjectPart n s
object_says whole s n e = go (type_at s) refl e
  where
    ended : (p : List ℕ × (List ℕ × List ℕ)) → IsTypeAt s p → (i : List ℕ × List ℕ) → IsIdAt p.1.1 i → whole_object whole p.0 p.1.0 i ≡ Ok n → IsObjectPart n s
    ended p type (id, []) at e =
        let made : ObjectName = record { domain = p.0; name = p.1.0; id = id } in
        let same : made ≡ n = ok_is (Ok made) made n refl e in
        subst (λ (m : ObjectName). IsObjectPart m s) same (record {
          digits = at.digits;
          said = at.said;
          whole = type.whole ∙ ap (λ z. p.0 ++ 46 ∷ (p.1.0 ++ 40 ∷ z)) at.whole ∙ sym (part_is made at.digits);
          form = record { domain = type.domain; name = type.name; id = (id_of_says at.digits id at.said).sound };
        })
    ended p type (id, c ∷ cs) at e = cc

    named : (p : List ℕ × (List ℕ × List ℕ)) → IsTypeAt s p → (o : Option (List ℕ × List ℕ)) → id_at p.1.1 ≡ o → with_id whole p.0 p.1.0 p.1.1 o ≡ Ok n → IsObjectPart n s
    named p type None q e = cc
    named p type (Some i) q e = ended p type i (id_at_says p.1.1 i q) e

    go : (o : Option (List ℕ × (List ℕ × List ℕ))) → type_at s ≡ o → with_type whole s o ≡ Ok n → IsObjectPart n s
    go None q e = cc
    go (Some p) q e = named p (type_at_says s p q) (id_at p.1.1) refl e

-- ---- a dataspace's part

path_of_found : (path rest : List ℕ) → is_path path ≡ true → path_of (39 ∷ (doubled path ++ 39 ∷ (41 ∷ rest))) ≡ Some (path, rest)
path_of_found path rest e =
    let single : (more : List ℕ) → 41 ∷ rest ≢ 39 ∷ more = λ more same. absurd (omega (arith, ap (λ (s : List ℕ). get_or s 0 0) same)) in
    rw (unquoted_doubled path (41 ∷ rest) single) (rw e refl)

record IsPathAt (s : List ℕ) (p : List ℕ × List ℕ) : Type 0 where
  whole : s ≡ 39 ∷ (doubled p.0 ++ 39 ∷ (41 ∷ p.1))
  path : is_path p.0 ≡ true

path_of_says : (s : List ℕ) (p : List ℕ × List ℕ) → path_of s ≡ Some p → IsPathAt s p
path_of_says s p e = go (after (codes "'") s) refl e
  where
    last : (t : List ℕ) → s ≡ 39 ∷ t → (q : List ℕ × List ℕ) → unquoted false t ≡ Some q → is_path q.0 ≡ true → (o : Option (List ℕ)) → after (codes ")") q.1 ≡ o
        → option_map (λ (rest : List ℕ). (q.0, rest)) o ≡ Some p → IsPathAt s p
    last t whole q said path None at e = cc
    last t whole q said path (Some rest) at e =
        let same : (q.0, rest) ≡ p = ap (λ o. unwrap_or o p) e in
        subst (IsPathAt s) same (record {
          whole = whole ∙ ap (λ (z : List ℕ). 39 ∷ z) (unquoted_says t q.0 q.1 said ∙ ap (λ (z : List ℕ). doubled q.0 ++ 39 ∷ z) (after_says (codes ")") q.1 rest at));
          path = path;
        })

    quoted : (t : List ℕ) → s ≡ 39 ∷ t → (o : Option (List ℕ × List ℕ)) → unquoted false t ≡ o → option_and_then closed o ≡ Some p → IsPathAt s p
    quoted t whole None said e = cc
    quoted t whole (Some q) said e =
        let step = if_some (is_path q.0) (option_map (λ (rest : List ℕ). (q.0, rest)) (after (codes ")") q.1)) p e in
        last t whole q said step.0 (after (codes ")") q.1) refl step.1

    go : (o : Option (List ℕ)) → after (codes "'") s ≡ o → option_and_then (λ t. option_and_then closed (unquoted false t)) o ≡ Some p → IsPathAt s p
    go None at e = cc
    go (Some t) at e = quoted t (after_says (codes "'") s t at) (unquoted false t) refl e

-- a prefix with a parenthesis and no dot does not begin an object's part
abbrev HasOpen : List ℕ → Type 0
HasOpen ps = list_any (λ c. nat_eq c 40) ps ≡ true

not_at_object : (ps d rest : List ℕ) → Lacks 46 ps → Lacks 40 d → HasOpen ps → after ps (d ++ 46 ∷ rest) ≡ None
not_at_object [] d rest no_dot no_open h = cc
not_at_object (p ∷ ps) [] rest no_dot no_open h =
    let differs : nat_eq 46 p ≡ false = ne_back p 46 no_dot.0 in rw differs refl
  where
    ne_back : (a b : ℕ) → nat_eq a b ≡ false → nat_eq b a ≡ false
    ne_back a b e = grind (arith, nat_tests)
not_at_object (p ∷ ps) (x ∷ d) rest no_dot no_open h =
    elim (cases_Bool (nat_eq x p)) [
      | inl same ↦
          let head : nat_eq p 40 ≡ false = ap (λ n. nat_eq n 40) (sym (eqb-true x p same)) ∙ no_open.0 in
          let later : HasOpen ps = rw head at h in
          rw same (not_at_object ps d rest no_dot.1 no_open.1 later)
      | inr other ↦ rw other refl
    ]

-- ---- a whole text

-- a value's names are well formed and its parts within their limits
pub record IsFormed (u : StoreUri) : Type 0 where
  pub path : length u.space ≤ 256
  pub object : IfSome u.object IsObjectName

-- what is read of a body
pub record SaysBody (u : StoreUri) (s : List ℕ) : Type 0 where
  pub form : IsFormed u
  pub text : IsTextOf u (codes "eml:///" ++ s)

is_path-long : (path : List ℕ) → is_path path ≡ true → (1 ≤ length path) × (length path ≤ 256)
is_path-long path e = let step = and_parts (nat_le 1 (length path)) (nat_le (length path) 256) e in (grind (arith, nat_tests), grind (arith, nat_tests))

is_path-short : (c : ℕ) (cs : List ℕ) → length (c ∷ cs) ≤ 256 → is_path (c ∷ cs) ≡ true
is_path-short c cs h = grind (arith, nat_tests)

-- the part of a dataspace, as it is read
quoted_path : (c : ℕ) (cs rest : List ℕ) → space_part (c ∷ cs) ++ rest ≡ codes "dataspace(" ++ 39 ∷ (doubled (c ∷ cs) ++ 39 ∷ (41 ∷ rest))
quoted_path c cs rest = simp append_assoc

in_space_says : (space : List ℕ) (r : Result ObjectName UriError) (u : StoreUri) → in_space space r ≡ Ok u
    → (n : ObjectName) × (r ≡ Ok n) × (u ≡ record { space = space; object = Some n })
in_space_says space (Ok n) u e = (n, refl, sym (ok_is (Ok (record { space = space; object = Some n })) (record { space = space; object = Some n }) u refl e))
in_space_says space (Err x) u e = cc

in_default_object : (whole : ℕ) (s : List ℕ) → s ≢ [] → in_default whole s ≡ in_space [] (object_of whole s)
in_default_object whole [] h = absurd (h refl)
in_default_object whole (c ∷ cs) h = refl

in_path_found : (whole c : ℕ) (cs rest : List ℕ) → length (c ∷ cs) ≤ 256
    → with_space whole (space_part (c ∷ cs) ++ rest) (after (codes "dataspace(") (space_part (c ∷ cs) ++ rest)) ≡ with_rest whole (c ∷ cs) rest
in_path_found whole c cs rest short =
    ap (with_space whole (space_part (c ∷ cs) ++ rest))
    (ap (after (codes "dataspace(")) (quoted_path c cs rest) ∙ after_found (codes "dataspace(") (39 ∷ (doubled (c ∷ cs) ++ 39 ∷ (41 ∷ rest))))
    ∙ ap (with_path whole) (path_of_found (c ∷ cs) rest (is_path-short c cs short))

object_part-some : (n : ObjectName) (digits : List ℕ) → object_part n digits ≢ []
object_part-some n digits e =
    absurd (omega (arith, length-append n.domain (46 ∷ (n.name ++ 40 ∷ (digits ++ 41 ∷ []))), ap length (sym (part_is n digits) ∙ e)))

-- a text's body
body_is : (s t : List ℕ) → codes "eml:///" ++ s ≡ codes "eml:///" ++ t → s ≡ t
body_is s t e = ap (drop 7) e

-- a body is read
default_object_found : (whole : ℕ) (n : ObjectName) (digits : List ℕ) → IsObjectName n → id_of digits ≡ Some n.id
    → with_space whole (object_part n digits) (after (codes "dataspace(") (object_part n digits)) ≡ Ok (record { space = []; object = Some n })
default_object_found whole n digits form said =
    let no_space : after (codes "dataspace(") (object_part n digits) ≡ None =
    ap (after (codes "dataspace(")) (part_is n digits)
    ∙ not_at_object (codes "dataspace(") n.domain (n.name ++ 40 ∷ (digits ++ 41 ∷ [])) no_dots (domain_lacks 40 n.domain refl refl form.domain) refl in
    ap (with_space whole (object_part n digits)) no_space ∙ in_default_object whole (object_part n digits) (object_part-some n digits)
    ∙ ap (in_space []) (object_found whole n digits form.domain form.name said)
  where
    no_dots : Lacks 46 (codes "dataspace(")
    no_dots = Lacks-from_test (λ c. not (nat_eq c 46)) 46 (codes "dataspace(") refl refl

body_found : (whole : ℕ) (space : List ℕ) (object : Option ObjectName) (s : List ℕ) → length space ≤ 256 → IfSome object IsObjectName
    → IsTextIn space object (codes "eml:///" ++ s) → with_space whole s (after (codes "dataspace(") s) ≡ Ok (record { space = space; object = object })
body_found whole [] None s short form text = rw (body_is s [] text) refl
body_found whole [] (Some n) s short form text =
    rw (body_is s (object_part n text.0) text.2) (default_object_found whole n text.0 form text.1)
body_found whole (c ∷ cs) None s short form text =
    ap (λ (z : List ℕ). with_space whole z (after (codes "dataspace(") z)) (body_is s (space_part (c ∷ cs)) text ∙ sym (append-nil (space_part (c ∷ cs))))
    ∙ in_path_found whole c cs [] short
body_found whole (c ∷ cs) (Some n) s short form text =
    rw (body_is s (space_part (c ∷ cs) ++ 47 ∷ object_part n text.0) text.2)
    (in_path_found whole c cs (47 ∷ object_part n text.0) short ∙ ap (in_space (c ∷ cs)) (object_found whole n text.0 form.domain form.name text.1))

-- a body says its URI
default_says : (whole : ℕ) (s : List ℕ) (u : StoreUri) → in_default whole s ≡ Ok u → SaysBody u s
default_says whole [] u e =
    let made : StoreUri = record { space = []; object = None } in
    subst (λ (v : StoreUri). SaysBody v []) (ok_is (Ok made) made u refl e) (record { form = record { path = lit≤ tt; object = tt }; text = refl })
default_says whole (c ∷ cs) u e =
    let read = in_space_says [] (object_of whole (c ∷ cs)) u e in
    let part = object_says whole (c ∷ cs) read.0 read.1 in
    subst (λ (v : StoreUri). SaysBody v (c ∷ cs)) (sym read.2) (record {
      form = record { path = lit≤ tt; object = part.form };
      text = (part.digits, part.said, ap (λ (z : List ℕ). codes "eml:///" ++ z) part.whole);
    })

path_says : (whole c : ℕ) (cs rest : List ℕ) (u : StoreUri) → length (c ∷ cs) ≤ 256 → with_rest whole (c ∷ cs) rest ≡ Ok u → SaysBody u (space_part (c ∷ cs) ++ rest)
path_says whole c cs [] u short e =
    let made : StoreUri = record { space = c ∷ cs; object = None } in
    subst (λ (v : StoreUri). SaysBody v (space_part (c ∷ cs) ++ [])) (ok_is (Ok made) made u refl e) (record {
      form = record { path = short; object = tt };
      text = ap (λ (z : List ℕ). codes "eml:///" ++ z) (append-nil (space_part (c ∷ cs)));
    })
path_says whole c cs (x ∷ xs) u short e = go (after (codes "/") (x ∷ xs)) refl e
  where
    go : (o : Option (List ℕ)) → after (codes "/") (x ∷ xs) ≡ o → with_slash whole (c ∷ cs) (x ∷ xs) o ≡ Ok u → SaysBody u (space_part (c ∷ cs) ++ x ∷ xs)
    go None at e = cc
    go (Some s) at e =
        let read = in_space_says (c ∷ cs) (object_of whole s) u e in
        let part = object_says whole s read.0 read.1 in
        let slash : x ∷ xs ≡ 47 ∷ s = after_says (codes "/") (x ∷ xs) s at in
        subst (λ (v : StoreUri). SaysBody v (space_part (c ∷ cs) ++ x ∷ xs)) (sym read.2) (record {
          form = record { path = short; object = part.form };
          text = (part.digits, part.said, ap (λ (z : List ℕ). codes "eml:///" ++ (space_part (c ∷ cs) ++ z)) (slash ∙ ap (λ (z : List ℕ). 47 ∷ z) part.whole));
        })

body_says : (whole : ℕ) (s : List ℕ) (u : StoreUri) → with_space whole s (after (codes "dataspace(") s) ≡ Ok u → SaysBody u s
body_says whole s u e = go (after (codes "dataspace(") s) refl e
  where
    at_path : (quoted : List ℕ) → s ≡ codes "dataspace(" ++ quoted → (path rest : List ℕ) → IsPathAt quoted (path, rest) → with_rest whole path rest ≡ Ok u → SaysBody u s
    at_path quoted whole_is [] rest at e = absurd (true≢false (sym at.path))
    at_path quoted whole_is (c ∷ cs) rest at e =
        let whole_text : s ≡ space_part (c ∷ cs) ++ rest = whole_is ∙ ap (λ (z : List ℕ). codes "dataspace(" ++ z) at.whole ∙ sym (quoted_path c cs rest) in
        subst (SaysBody u) (sym whole_text) (path_says whole c cs rest u (is_path-long (c ∷ cs) at.path).1 e)

    in_path : (quoted : List ℕ) → s ≡ codes "dataspace(" ++ quoted → (o : Option (List ℕ × List ℕ)) → path_of quoted ≡ o → with_path whole o ≡ Ok u → SaysBody u s
    in_path quoted whole_is None said e = cc
    in_path quoted whole_is (Some p) said e = at_path quoted whole_is p.0 p.1 (path_of_says quoted p said) e

    go : (o : Option (List ℕ)) → after (codes "dataspace(") s ≡ o → with_space whole s o ≡ Ok u → SaysBody u s
    go None at e = default_says whole s u e
    go (Some quoted) at e = in_path quoted (after_says (codes "dataspace(") s quoted at) (path_of quoted) refl e

-- ---- the laws

-- every text of a URI is as long as its canonical one
object_text-long : (space : List ℕ) (n : ObjectName) (a b : List ℕ) → length a ≡ length b → length (object_text space n a) ≡ length (object_text space n b)
object_text-long [] n a b e = simp length-append (rw e refl)
object_text-long (c ∷ cs) n a b e = simp length-append (rw e refl)

text_long : (space : List ℕ) (object : Option ObjectName) (text : List ℕ) → IsTextIn space object text → length text ≡ length (text_in space object)
text_long space None text h = ap length h
text_long space (Some n) text h =
    ap length h.2 ∙ object_text-long space n h.0 (id_text n.id) ((id_of_says h.0 n.id h.1).long ∙ sym (length-id_text n.id))

plain_is_text : (space : List ℕ) (object : Option ObjectName) → IfSome object IsObjectName → IsTextIn space object (text_in space object)
plain_is_text space None h = refl
plain_is_text space (Some n) h = (id_text n.id, id_of-id_text n.id h.id, refl)

short_enough : (s : List ℕ) → length s ≤ 2048 → nat_lt 2048 (length s) ≡ false
short_enough s h = grind (arith, nat_tests)

short_from : (s : List ℕ) → nat_lt 2048 (length s) ≡ false → length s ≤ 2048
short_from s e = grind (arith, nat_tests)

-- what follows the prefix
prefix_is : (space : List ℕ) (object : Option ObjectName) (text : List ℕ) → IsTextIn space object text → (s : List ℕ) × (text ≡ codes "eml:///" ++ s)
prefix_is space None text h = (space_part space, h)
prefix_is space (Some n) text h = (space_part space ++ behind space (object_part n h.0), h.2)

-- each text of a URI reads as that URI
pub uri_of-text : (u : StoreUri) (text : List ℕ) → IsUri u → IsTextOf u text → uri_of text ≡ Ok u
unfolding uri_of
uri_of-text u text form is_text =
    let long : length text ≤ 2048 = rw (text_long u.space u.object text is_text) form.text in
    let front = prefix_is u.space u.object text is_text in
    let body : after (codes "eml:///") text ≡ Some front.0 = ap (after (codes "eml:///")) front.1 ∙ after_found (codes "eml:///") front.0 in
    let P : List ℕ → Type 0 = λ z. IsTextIn u.space u.object z in
    let at_front : IsTextIn u.space u.object (codes "eml:///" ++ front.0) = subst P front.1 is_text in
    rw (short_enough text long, body) (body_found (length text) u.space u.object front.0 form.path form.object at_front)

-- and what is read is a URI, and the text one of its texts
pub uri_of-says : (u : StoreUri) (text : List ℕ) → uri_of text ≡ Ok u → IsUri u × IsTextOf u text
unfolding uri_of
uri_of-says u text e =
    elim (cases_Bool (nat_lt 2048 (length text))) [
      | inl long ↦ let never : Err TooLong ≡ Ok u = rw long at e in cc
      | inr short ↦ let read : with_body text (after (codes "eml:///") text) ≡ Ok u = rw short at e in
          go (after (codes "eml:///") text) refl read (short_from text short)
    ]
  where
    go : (o : Option (List ℕ)) → after (codes "eml:///") text ≡ o → with_body text o ≡ Ok u → length text ≤ 2048 → IsUri u × IsTextOf u text
    go None at e long = cc
    go (Some s) at e long =
        let says = body_says (length text) s u e in
        let whole : text ≡ codes "eml:///" ++ s = after_says (codes "eml:///") text s at in
        let is_text : IsTextOf u text = subst (IsTextOf u) (sym whole) says.text in
        (record { path = says.form.path; object = says.form.object; text = rw (← text_long u.space u.object text is_text) long }, is_text)

-- a URI is read from its canonical text
pub uri_of-plain_uri : (u : StoreUri) → IsUri u → uri_of (plain_uri u) ≡ Ok u
uri_of-plain_uri u form = uri_of-text u (plain_uri u) form (plain_is_text u.space u.object form.object)

-- two URIs with one canonical text are the same
pub plain_uri-once : (u v : StoreUri) → IsUri u → IsUri v → plain_uri u ≡ plain_uri v → u ≡ v
plain_uri-once u v h k e = ok_is (uri_of (plain_uri u)) u v (uri_of-plain_uri u h) (ap uri_of e ∙ uri_of-plain_uri v k)

-- ---- what a reader answers

pub uri_of-long : (text : List ℕ) → 2048 < length text → uri_of text ≡ Err TooLong
unfolding uri_of
uri_of-long text long = let test : nat_lt 2048 (length text) ≡ true = grind (arith, nat_tests) in rw test refl

pub uri_of-short : (text : List ℕ) → length text ≤ 2048 → uri_of text ≡ with_body text (after (codes "eml:///") text)
unfolding uri_of
uri_of-short text short = rw (short_enough text short) refl

pub read_form : (text : List ℕ) (r : Result StoreUri UriError) → Gives NoMemory r (uri_of text) → IfOk r IsUri
read_form text (Ok u) h = (uri_of-says u text h).0
read_form text (Err e) h = tt

pub read_body_gives : (text s : List ℕ) (r : Result StoreUri UriError) → length text ≤ 2048 → Some s ≡ after (codes "eml:///") text
    → Gives NoMemory r (with_space (length text) s (after (codes "dataspace(") s)) → Gives NoMemory r (uri_of text)
read_body_gives text s r short at h = subst (Gives NoMemory r) (sym (uri_of-short text short ∙ ap (with_body text) (sym at))) h

pub read_prefix_gives : (text bytes : List ℕ) (n : ℕ) → length text ≤ 2048 → None ≡ after (codes "eml:///") text → bytes ≡ text
    → n ≡ common_prefix_len nat_eq (codes "eml:///") bytes → uri_of text ≡ Err (Prefix n)
read_prefix_gives text bytes n short at same count =
    uri_of-short text short ∙ ap (with_body text) (sym at)
    ∙ ap (λ k. Err (Prefix k)) (ap (common_prefix_len nat_eq (codes "eml:///")) (sym same) ∙ sym count)
