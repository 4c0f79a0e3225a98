-- Searches for a message by its numbers; for the crates above too.
use Rattle.std.specs.Prelude.{◌||◌, is_some}
use Rattle.std.proofs.Common.{◌≡◌, ℕ, ℤ, pos, negsuc, Bool, true, false, List, [], ◌∷◌, ◌++◌, Option, Some, None, refl, sym, ap, subst, if◌then◌else◌}
use Rattle.std.specs.List.{AllByRecursion}
use Rattle.std.proofs.lemmas.Bool.{eqb-true}
use Rattle.std.proofs.lemmas.Option.{same_Some}
use Rattle.etp_schema.specs.Bodies.{is_number}
use Rattle.etp_schema.specs.Family.{Kind, kind_in}
use Rattle.etp_frame.specs.Message.{under, Protocol, kinds_in}
use Rattle.etp_frame.specs.declared.message.Message.{Message}

pub number_is : (a : ℕ) (n : ℤ) → is_number a n ≡ true → n ≡ pos a
number_is a (pos b) h = ap pos (sym (eqb-true a b h))
number_is a (negsuc b) h = absurd (let no : false ≡ true = h in cc)

-- what is found among the messages of one enum is found among those of any, as one of them
abbrev pub whole_kind : {M : Type 0} → (M → Message) → Kind M → Kind Message
whole_kind whole k = record { number = k.number; schema = k.schema; read = λ v. whole (k.read v) }

abbrev pub lifted : {M : Type 0} → (M → Message) → Option (Kind M) → Option (Kind Message)
lifted whole None = None
lifted whole (Some k) = Some (whole_kind whole k)

pub kind_under : {M : Type 0} (whole : M → Message) (ks : List (Kind M)) (n : ℤ) → kind_in (under whole ks) n ≡ lifted whole (kind_in ks n)
kind_under whole [] n = refl
kind_under whole (k ∷ ks) n =
    elim (is_number k.number n) as (λ b. (if b then Some (whole_kind whole k) else kind_in (under whole ks) n) ≡ lifted whole (if b then Some k else kind_in ks n)) [
      | true ↦ refl
      | false ↦ kind_under whole ks n
    ]

-- what is not in the first list is searched in the second
pub kind_behind : (ks more : List (Kind Message)) (n : ℤ) → is_some (kind_in ks n) ≡ false → kind_in (ks ++ more) n ≡ kind_in more n
kind_behind [] more n h = refl
kind_behind (k ∷ ks) more n h =
    elim (is_number k.number n) as (λ b. is_some (if b then Some k else kind_in ks n) ≡ false → (if b then Some k else kind_in (ks ++ more) n) ≡ kind_in more n) [
      | true ↦ λ e. absurd (let no : true ≡ false = e in cc)
      | false ↦ λ e. kind_behind ks more n e
    ] h

-- what is found of a list has what each of the list has, and the number that was searched
pub kind_has : (P : Kind Message → Type 0) (ks : List (Kind Message)) (n : ℤ) (k : Kind Message) → AllByRecursion P ks → kind_in ks n ≡ Some k → P k × (n ≡ pos k.number)
kind_has P [] n k a e = absurd (let no : None ≡ Some k = e in cc)
kind_has P (q ∷ ks) n k a e =
    elim (is_number q.number n) as (λ b. is_number q.number n ≡ b → (if b then Some q else kind_in ks n) ≡ Some k → P k × (n ≡ pos k.number)) [
      | true ↦ λ t h. let same : q ≡ k = same_Some q k h in subst (λ (j : Kind Message). P j × (n ≡ pos j.number)) same (a.0, number_is q.number n t)
      | false ↦ λ t h. kind_has P ks n k a.1 h
    ] refl e

-- what is found of the protocols has what each of their messages has
pub typed_has : (P : ℤ → Kind Message → Type 0) (qs : List Protocol) (p kind : ℤ) (k : Kind Message) → AllByRecursion (λ q. AllByRecursion (P (pos q.number)) q.kinds) qs → kind_in (kinds_in qs p) kind ≡ Some k → P p k × (kind ≡ pos k.number)
typed_has P [] p kind k a e = absurd (let no : None ≡ Some k = e in cc)
typed_has P (q ∷ qs) p kind k a e =
    elim (is_number q.number p) as (λ b. is_number q.number p ≡ b → kind_in (if b then q.kinds else kinds_in qs p) kind ≡ Some k → P p k × (kind ≡ pos k.number)) [
      | true ↦ λ t h. subst (λ (z : ℤ). P z k × (kind ≡ pos k.number)) (sym (number_is q.number p t)) (kind_has (P (pos q.number)) q.kinds kind k a.0 h)
      | false ↦ λ t h. typed_has P qs p kind k a.1 h
    ] refl e

-- whether one of the protocols has this number
abbrev pub has_of : List Protocol → ℤ → Bool
has_of [] p = false
has_of (q ∷ qs) p = is_number q.number p || has_of qs p

-- a number under which each protocol has a message finds it in each
pub at_each : (F : Option (Kind Message) → Type 0) (kind : ℤ) (qs : List Protocol) (p : ℤ) → AllByRecursion (λ q. F (kind_in q.kinds kind)) qs → has_of qs p ≡ true → F (kind_in (kinds_in qs p) kind)
at_each F kind [] p a h = absurd (let no : false ≡ true = h in cc)
at_each F kind (q ∷ qs) p a h =
    elim (is_number q.number p) as (λ b. (b || has_of qs p) ≡ true → F (kind_in (if b then q.kinds else kinds_in qs p) kind)) [
      | true ↦ λ e. a.0
      | false ↦ λ e. at_each F kind qs p a.1 e
    ] h
