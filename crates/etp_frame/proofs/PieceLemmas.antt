-- What a piece of a blob does to the objects of a message.
use Rattle.std.proofs.Common.{◌≡◌, ◌∙◌, ◌++◌, ◌+◌, ◌<◌, ℕ, suc, Bool, true, false, cond, ◌&&◌, ◌||◌, List, [], ◌∷◌, length, Option, Some, None, is_some, nat_lt, refl, sym, ap, append_assoc, arith}
use Rattle.std.proofs.lemmas.Bool.{false≢true, or_parts}
use Rattle.std.proofs.lemmas.List.{length-append}
use Rattle.std.proofs.lemmas.Bool.Decides.{nat_tests}
use Rattle.std.specs.List.{list_any}
use Rattle.std.specs.Map.{keys_of}
use Rattle.msg_store.specs.declared.store_messages.Chunk.{Chunk}
use Rattle.msg_store.specs.declared.store_messages.DataObject.{DataObject}
use Rattle.etp_frame.specs.Joining.{Objects, is_blob, awaits, awaits_any, is_double, data_size, grown, fed}
use Rattle.etp_frame.specs.Kept.{piece, last_piece, awaiting}

abbrev pub Object : Type 0
Object = List ℕ × DataObject

-- an object with a piece
abbrev pub with_data : Object → Chunk → Object
with_data x c = (x.0, grown x.1 c)

pub rest_or : (a b : Bool) → a ≡ false → (a || b) ≡ true → b ≡ true
rest_or true b h any = absurd (false≢true (sym h))
rest_or false b h any = any

-- ---- which objects it goes to

module _ (c : Chunk) (x : Object) (xs : Objects) where
  pub fed_here : awaits c.blob_id x ≡ true → fed (x ∷ xs) c ≡ with_data x c ∷ xs
  fed_here h = ap (λ (t : Bool). cond t (with_data x c ∷ xs) (x ∷ fed xs c)) h

  pub fed_later : awaits c.blob_id x ≡ false → fed (x ∷ xs) c ≡ x ∷ fed xs c
  fed_later h = ap (λ (t : Bool). cond t (with_data x c ∷ xs) (x ∷ fed xs c)) h

-- ---- two pieces of one blob act as one

module _ (id a b : List ℕ) (last : Bool) where
  abbrev second : Chunk
  second = record { blob_id = id; payload = b; last = last }

  abbrev both : Chunk
  both = record { blob_id = id; payload = a ++ b; last = last }

  again_at : (x : Object) (xs : Objects) (t : Bool) → awaits id x ≡ t → fed (fed xs (piece id a)) second ≡ fed xs both
      → fed (fed (x ∷ xs) (piece id a)) second ≡ fed (x ∷ xs) both
  again_at x xs true h more =
      ap (λ (l : Objects). fed l second) (fed_here (piece id a) x xs h)
      ∙ fed_here second (with_data x (piece id a)) xs h
      ∙ (λ i. (x.0, record x.1 { blob_id = cond last None x.1.blob_id; payload = append_assoc x.1.payload a b i }) ∷ xs)
      ∙ sym (fed_here both x xs h)
  again_at x xs false h more =
      ap (λ (l : Objects). fed l second) (fed_later (piece id a) x xs h)
      ∙ fed_later second x (fed xs (piece id a)) h
      ∙ ap (λ (l : Objects). x ∷ l) more
      ∙ sym (fed_later both x xs h)

  pub fed_again : (xs : Objects) → fed (fed xs (piece id a)) second ≡ fed xs both
  fed_again [] = refl
  fed_again (x ∷ xs) = again_at x xs (awaits id x) refl (fed_again xs)

-- ---- what a piece leaves

module _ (test : Object → Bool) (c : Chunk) (kept : (x : Object) → test (with_data x c) ≡ test x) where
  any_at : (x : Object) (xs : Objects) (t : Bool) → awaits c.blob_id x ≡ t → list_any test (fed xs c) ≡ list_any test xs → list_any test (fed (x ∷ xs) c) ≡ list_any test (x ∷ xs)
  any_at x xs true h more = ap (list_any test) (fed_here c x xs h) ∙ ap (λ (t : Bool). t || list_any test xs) (kept x)
  any_at x xs false h more = ap (list_any test) (fed_later c x xs h) ∙ ap (λ (t : Bool). test x || t) more

  any_fed : (xs : Objects) → list_any test (fed xs c) ≡ list_any test xs
  any_fed [] = refl
  any_fed (x ∷ xs) = any_at x xs (awaits c.blob_id x) refl (any_fed xs)

pub awaits_fed : (q id b : List ℕ) (xs : Objects) → list_any (awaits q) (fed xs (piece id b)) ≡ list_any (awaits q) xs
awaits_fed q id b xs = any_fed (awaits q) (piece id b) (λ x. refl) xs

pub awaits_any_fed : (id b : List ℕ) (xs : Objects) → list_any awaits_any (fed xs (piece id b)) ≡ list_any awaits_any xs
awaits_any_fed id b xs = any_fed awaits_any (piece id b) (λ x. refl) xs

keys_at : (c : Chunk) (x : Object) (xs : Objects) (t : Bool) → awaits c.blob_id x ≡ t → keys_of (fed xs c) ≡ keys_of xs → keys_of (fed (x ∷ xs) c) ≡ keys_of (x ∷ xs)
keys_at c x xs true h more = ap keys_of (fed_here c x xs h)
keys_at c x xs false h more = ap keys_of (fed_later c x xs h) ∙ ap (λ (l : List (List ℕ)). x.0 ∷ l) more

pub keys_fed : (c : Chunk) (xs : Objects) → keys_of (fed xs c) ≡ keys_of xs
keys_fed c [] = refl
keys_fed c (x ∷ xs) = keys_at c x xs (awaits c.blob_id x) refl (keys_fed c xs)

length_at : (c : Chunk) (x : Object) (xs : Objects) (t : Bool) → awaits c.blob_id x ≡ t → length (fed xs c) ≡ length xs → length (fed (x ∷ xs) c) ≡ length (x ∷ xs)
length_at c x xs true h more = ap length (fed_here c x xs h)
length_at c x xs false h more = ap length (fed_later c x xs h) ∙ ap suc more

pub length_fed : (c : Chunk) (xs : Objects) → length (fed xs c) ≡ length xs
length_fed c [] = refl
length_fed c (x ∷ xs) = length_at c x xs (awaits c.blob_id x) refl (length_fed c xs)

-- ---- how many bytes there are

size_at : (c : Chunk) (x : Object) (xs : Objects) (t : Bool) → awaits c.blob_id x ≡ t → list_any (awaits c.blob_id) (x ∷ xs) ≡ true
    → (list_any (awaits c.blob_id) xs ≡ true → data_size (fed xs c) ≡ data_size xs + length c.payload) → data_size (fed (x ∷ xs) c) ≡ data_size (x ∷ xs) + length c.payload
size_at c x xs true h any more =
    let e = ap data_size (fed_here c x xs h) in
    omega (arith, e, length-append x.1.payload c.payload)
size_at c x xs false h any more =
    let e = ap data_size (fed_later c x xs h) in
    let m = more (rest_or (awaits c.blob_id x) (list_any (awaits c.blob_id) xs) h any) in
    omega (arith, e, m)

pub size_fed : (c : Chunk) (xs : Objects) → list_any (awaits c.blob_id) xs ≡ true → data_size (fed xs c) ≡ data_size xs + length c.payload
size_fed c [] any = absurd (false≢true any)
size_fed c (x ∷ xs) any = size_at c x xs (awaits c.blob_id x) refl any (size_fed c xs)

-- ---- how many objects await a blob

some_blob : (own : Option (List ℕ)) (id : List ℕ) → is_blob own id ≡ true → is_some own ≡ true
some_blob None id h = absurd (false≢true h)
some_blob (Some own) id h = refl

one_if : (t : Bool) (n : ℕ) → n ≡ cond t 1 0 → t ≡ true → n ≡ 1
one_if true n is h = is
one_if false n is h = absurd (false≢true h)

pub any_if_one : (id : List ℕ) (xs : Objects) → list_any (awaits id) xs ≡ true → list_any awaits_any xs ≡ true
any_if_one id [] any = absurd (false≢true any)
any_if_one id (x ∷ xs) any = any_at_one x.1.blob_id (list_any (awaits id) xs) (list_any awaits_any xs) any (any_if_one id xs)
  where
    any_at_one : (own : Option (List ℕ)) (one any : Bool) → (is_blob own id || one) ≡ true → (one ≡ true → any ≡ true) → (is_some own || any) ≡ true
    any_at_one None one any h more = more h
    any_at_one (Some own) one any h more = refl

awaiting_at : (id b : List ℕ) (x : Object) (xs : Objects) (t : Bool) → awaits id x ≡ t → list_any (awaits id) (x ∷ xs) ≡ true
    → (list_any (awaits id) xs ≡ true → awaiting xs ≡ awaiting (fed xs (last_piece id b)) + 1) → awaiting (x ∷ xs) ≡ awaiting (fed (x ∷ xs) (last_piece id b)) + 1
awaiting_at id b x xs true h any more =
    let e = ap awaiting (fed_here (last_piece id b) x xs h) in
    let one = one_if (is_some x.1.blob_id) (cond (is_some x.1.blob_id) 1 0) refl (some_blob x.1.blob_id id h) in
    omega (arith, e, one)
awaiting_at id b x xs false h any more =
    let e = ap awaiting (fed_later (last_piece id b) x xs h) in
    let m = more (rest_or (awaits id x) (list_any (awaits id) xs) h any) in
    omega (arith, e, m)

pub awaiting_fed : (id b : List ℕ) (xs : Objects) → list_any (awaits id) xs ≡ true → awaiting xs ≡ awaiting (fed xs (last_piece id b)) + 1
awaiting_fed id b [] any = absurd (false≢true any)
awaiting_fed id b (x ∷ xs) any = awaiting_at id b x xs (awaits id x) refl any (awaiting_fed id b xs)

none_at : (own : Option (List ℕ)) (n : ℕ) (any : Bool) → cond (is_some own) 1 0 + n ≡ 0 → (n ≡ 0 → any ≡ false) → (is_some own || any) ≡ false
none_at None n any h more = more (omega arith)
none_at (Some own) n any h more = absurd (omega arith)

pub none_awaits : (xs : Objects) → awaiting xs ≡ 0 → list_any awaits_any xs ≡ false
none_awaits [] h = refl
none_awaits (x ∷ xs) h = none_at x.1.blob_id (awaiting xs) (list_any awaits_any xs) h (none_awaits xs)

one_at : (own : Option (List ℕ)) (n : ℕ) (any : Bool) → 0 < cond (is_some own) 1 0 + n → (0 < n → any ≡ true) → (is_some own || any) ≡ true
one_at None n any h more = more (omega arith)
one_at (Some own) n any h more = refl

pub one_awaits : (xs : Objects) → 0 < awaiting xs → list_any awaits_any xs ≡ true
one_awaits [] h = absurd (omega arith)
one_awaits (x ∷ xs) h = one_at x.1.blob_id (awaiting xs) (list_any awaits_any xs) h (one_awaits xs)

-- ---- an object that awaits a blob has no data besides

single_at : (id b : List ℕ) (x : Object) (xs : Objects) (t : Bool) → awaits id x ≡ t → list_any is_double (x ∷ xs) ≡ false
    → (list_any is_double xs ≡ false → list_any is_double (fed xs (last_piece id b)) ≡ false) → list_any is_double (fed (x ∷ xs) (last_piece id b)) ≡ false
single_at id b x xs true h none more = ap (list_any is_double) (fed_here (last_piece id b) x xs h) ∙ (or_parts (is_double x) (list_any is_double xs) none).1
single_at id b x xs false h none more =
    let p = or_parts (is_double x) (list_any is_double xs) none in
    ap (list_any is_double) (fed_later (last_piece id b) x xs h) ∙ ap (λ (t : Bool). t || list_any is_double (fed xs (last_piece id b))) p.0 ∙ more p.1

pub single_fed : (id b : List ℕ) (xs : Objects) → list_any is_double xs ≡ false → list_any is_double (fed xs (last_piece id b)) ≡ false
single_fed id b [] none = refl
single_fed id b (x ∷ xs) none = single_at id b x xs (awaits id x) refl none (single_fed id b xs)

pub no_data : (own : Option (List ℕ)) (id bytes : List ℕ) → is_blob own id ≡ true → (is_some own && nat_lt 0 (length bytes)) ≡ false → bytes ≡ []
no_data None id bytes h none = absurd (false≢true h)
no_data (Some own) id [] h none = refl
no_data (Some own) id (b ∷ bs) h none = absurd (none_below (length bs) none)
  where
    none_below : (n : ℕ) → nat_lt 0 (suc n) ≡ false → ⊥
    none_below n h = grind (arith, nat_tests)
