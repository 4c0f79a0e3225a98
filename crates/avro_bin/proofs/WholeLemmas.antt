-- Whole inputs: what reading says about them, and what is refused; for the crates above too.
use Rattle.std.proofs.Common.{◌≡◌, ℕ, ◌+◌, ◌-◌, ◌≤◌, List, ◌++◌, Result, Ok, Err, length, take, drop, refl, sym, ap, subst, ◌∙◌, arith, ◌⊎◌, inl, inr}
use Rattle.std.proofs.lemmas.List.{length-append, length-drop, take_at, take-append-drop}
use Rattle.avro_bin.specs.declared.fault.Why.{Why}
use Rattle.avro_bin.specs.declared.refusal.Refusal.{Refusal}
use Rattle.avro_bin.specs.Value.{Value, nodes}
use Rattle.avro_bin.specs.Schema.{Schema}
use Rattle.avro_bin.specs.Reading.{Read, Got, value_at}
use Rattle.avro_bin.specs.Failing.{Fails}
use Rattle.avro_bin.specs.Refusing.{refusal, IsRefused}
use Rattle.avro_bin.specs.Laws.{OneSpelling, SomeOutcome, NotBoth, OneRefusal, ReadsExactly, RefusesExactly, IsRead, IsBytes, counted, read_value}
use Rattle.avro_bin.proofs.GroupLemmas.{ok_pair}
use Rattle.avro_bin.proofs.FoundLemmas.{value_found, triple_ok}
use Rattle.avro_bin.proofs.AgainLemmas.{value_again}
use Rattle.avro_bin.proofs.FailedLemmas.{value_failed, err_pair}
use Rattle.avro_bin.proofs.RefusedLemmas.{value_refused}
use Rattle.avro_bin.proofs.WithinLemmas.{fails_within}

pub one_spelling_is : OneSpelling
one_spelling_is s a b x y v w va wb same =
    let n : ℕ = nodes v + nodes w in
    let p = value_again s v n (nodes w) a x refl va in
    let q = value_again s w n (nodes v) b y (omega arith) wb in
    let r = triple_ok v w (nodes w) (nodes v) x y (sym p ∙ ap (value_at s n) same ∙ q) in
    let len : length a ≡ length b = omega (arith, ap length same, length-append a x, length-append b y, ap length r.2) in
    let back : take (length a) (a ++ x) ≡ a = take_at a x (length a) refl in
    let back' : take (length a) (b ++ y) ≡ b = take_at b y (length a) (sym len) in
    (sym back ∙ ap (take (length a)) same ∙ back', r.0)

-- what reading answers is read
pub is_read : (s : Schema) (limit : ℕ) (bytes : List ℕ) (v : Value) (left : ℕ) (rest : List ℕ) → IsBytes bytes → value_at s limit bytes ≡ Ok ((v, left), rest) → IsRead s limit bytes v (length bytes - length rest)
is_read s limit bytes v left rest fits e =
    let f = value_found s limit bytes v left rest fits e in
    let len : length bytes ≡ length f.text + length rest = ap length f.parts ∙ length-append f.text rest in
    let text : take (length bytes - length rest) bytes ≡ f.text = ap (take (length bytes - length rest)) f.parts ∙ take_at f.text rest (length bytes - length rest) (omega arith) in
    record { within = omega arith; spelled = rw text f.spelled; few = omega (arith, f.counted) }

-- what is read is what reading answers
pub reads : (s : Schema) (limit : ℕ) (bytes : List ℕ) (v : Value) (len : ℕ) → IsRead s limit bytes v len → value_at s limit bytes ≡ Ok ((v, limit - nodes v), drop len bytes)
reads s limit bytes v len r =
    ap (value_at s limit) (sym (take-append-drop len bytes)) ∙ value_again s v limit (limit - nodes v) (take len bytes) (drop len bytes) (omega (arith, r.few)) r.spelled

-- a fault that reading answers is refused
pub is_refused : (s : Schema) (limit : ℕ) (bytes : List ℕ) (w : Why) (left : ℕ) → IsBytes bytes → value_at s limit bytes ≡ Err (w, left) → IsRefused s limit bytes (refusal w (length bytes - left))
is_refused s limit bytes w left fits e =
    let f = value_failed s limit bytes w left fits e in
    let le : left ≤ length bytes = fails_within s limit bytes w left f in
    let same : left ≡ length bytes - (length bytes - left) = omega arith in
    record { why = w; offset = length bytes - left; is = refl; within = omega arith; fails = subst (λ (n : ℕ). Fails s limit bytes w n) same f }

-- what is refused is a fault that reading answers
pub refuses : (s : Schema) (limit : ℕ) (bytes : List ℕ) (e : Refusal) (r : IsRefused s limit bytes e) → value_at s limit bytes ≡ Err (r.why, length bytes - r.offset)
refuses s limit bytes e r = value_refused s limit bytes r.why (length bytes - r.offset) r.fails

pub never : {A E : Type 0} (r : Result A E) (e : E) (x : A) → r ≡ Err e → r ≡ Ok x → ⊥
never r e x p q = cc

-- what reading answered is what is refused
pub same_refusal : (s : Schema) (limit : ℕ) (bytes : List ℕ) (w : Why) (left : ℕ) (e : Refusal) → value_at s limit bytes ≡ Err (w, left) → IsRefused s limit bytes e → refusal w (length bytes - left) ≡ e
same_refusal s limit bytes w left e h r =
    let p = err_pair {A = Got} w r.why left (length bytes - r.offset) (sym h ∙ refuses s limit bytes e r) in
    let offset : length bytes - left ≡ r.offset = omega (arith, p.1, r.within) in
    ap (λ (n : ℕ). refusal w n) offset ∙ ap (λ (v : Why). refusal v r.offset) (sym p.0) ∙ sym r.is

outcome : (s : Schema) (limit : ℕ) (bytes : List ℕ) (r : Read Got) → IsBytes bytes → value_at s limit bytes ≡ r → ((v : Value) × (len : ℕ) × IsRead s limit bytes v len) ⊎ ((e : Refusal) × IsRefused s limit bytes e)
outcome s limit bytes (Ok x) fits h = inl (x.0.0, length bytes - length x.1, is_read s limit bytes x.0.0 x.0.1 x.1 fits h)
outcome s limit bytes (Err e) fits h = inr (refusal e.0 (length bytes - e.1), is_refused s limit bytes e.0 e.1 fits h)

pub some_outcome : SomeOutcome
some_outcome s limit bytes fits = outcome s limit bytes (value_at s limit bytes) fits refl

pub not_both : NotBoth
not_both s limit bytes v len e r q = never (value_at s limit bytes) (q.why, length bytes - q.offset) ((v, limit - nodes v), drop len bytes) (refuses s limit bytes e q) (reads s limit bytes v len r)

pub one_refusal : OneRefusal
one_refusal s limit bytes d e p q =
    let same = same_refusal s limit bytes p.why (length bytes - p.offset) e (refuses s limit bytes d p) q in
    let offset : p.offset ≡ length bytes - (length bytes - p.offset) = omega (arith, p.within) in
    p.is ∙ ap (λ (n : ℕ). refusal p.why n) offset ∙ same

ok_value : (len : ℕ) (r : Read Got) (v : Value) (size : ℕ) → counted len r ≡ Ok (v, size) → (left : ℕ) × (rest : List ℕ) × (r ≡ Ok ((v, left), rest)) × (len - length rest ≡ size)
ok_value len (Ok x) v size e =
    let p = ok_pair {E = Refusal} x.0.0 v (len - length x.1) size e in
    (x.0.1, x.1, ap (λ (w : Value). Ok ((w, x.0.1), x.1)) p.0, p.1)
ok_value len (Err d) v size e = absurd cc

abbrev refused_as : Refusal → Result (Value × ℕ) Refusal
refused_as e = Err e

refusal_is : (d e : Refusal) → refused_as d ≡ refused_as e → d ≡ e
refusal_is d e h = cc

err_value : (len : ℕ) (r : Read Got) (e : Refusal) → counted len r ≡ Err e → (w : Why) × (left : ℕ) × (r ≡ Err (w, left)) × (refusal w (len - left) ≡ e)
err_value len (Ok x) e h = absurd cc
err_value len (Err d) e h = (d.0, d.1, refl, refusal_is (refusal d.0 (len - d.1)) e h)

pub reads_exactly : ReadsExactly
unfolding read_value
reads_exactly s limit bytes v len fits = (there, back)
  where
    there : read_value s limit bytes ≡ Ok (v, len) → IsRead s limit bytes v len
    there h =
        let p = ok_value (length bytes) (value_at s limit bytes) v len h in
        subst (λ (n : ℕ). IsRead s limit bytes v n) p.3 (is_read s limit bytes v p.0 p.1 fits p.2)

    back : IsRead s limit bytes v len → read_value s limit bytes ≡ Ok (v, len)
    back r =
        let e : length bytes - length (drop len bytes) ≡ len = omega (arith, length-drop len bytes, r.within) in
        ap (counted (length bytes)) (reads s limit bytes v len r) ∙ ap (λ (n : ℕ). Ok (v, n)) e

pub refuses_exactly : RefusesExactly
unfolding read_value
refuses_exactly s limit bytes e fits = (there, back)
  where
    there : read_value s limit bytes ≡ Err e → IsRefused s limit bytes e
    there h =
        let p = err_value (length bytes) (value_at s limit bytes) e h in
        subst (IsRefused s limit bytes) p.3 (is_refused s limit bytes p.0 p.1 fits p.2)

    back : IsRefused s limit bytes e → read_value s limit bytes ≡ Err e
    back r =
        let q = refuses s limit bytes e r in
        ap (counted (length bytes)) q ∙ ap (λ (d : Refusal). Err d) (same_refusal s limit bytes r.why (length bytes - r.offset) e q r)
