-- What is found at a frame's offset, by the tests that lead there.
use Rattle.std.proofs.Common.{◌≡◌, ℕ, zero, suc, ◌+◌, ◌-◌, ◌<◌, ◌≤◌, true, false, List, [], ◌∷◌, ◌++◌, length, get_or, take, drop, arith, ap, sym, ◌∙◌, subst, length-append, length-take, length-drop, take_all, take_at, drop_at, length-take-le, add-zero}
use Rattle.std.proofs.lemmas.Bool.Decides.{nat_tests}
use Rattle.etp_capture.specs.Frames.{is_kind, is_length, length_in, capture_limit, magic, frame_of}
use Rattle.etp_capture.specs.Found.{found, body_found, Bad, Whole}
use Rattle.etp_capture.specs.declared.reader.CaptureError.{CaptureError}
use Rattle.etp_capture.specs.declared.reader.CaptureError.TheVariants.{Kind, Length, Cut, Limit}

pub found_kind : (at k : ℕ) (rest : List ℕ) → at + 1 ≤ capture_limit → is_kind k ≡ false → found at (k ∷ rest) ≡ Bad (Kind at)
found_kind at k rest within kind = grind (arith, nat_tests)

pub found_limit : (at k : ℕ) (rest : List ℕ) → at + 1 ≤ capture_limit → is_kind k ≡ true → capture_limit < at + 17 → capture_limit < at + 1 + length rest → found at (k ∷ rest) ≡ Bad Limit
found_limit at k rest within kind past more = grind (arith, nat_tests)

pub found_cut : (at k : ℕ) (rest : List ℕ) → at + 1 + length rest ≤ capture_limit → is_kind k ≡ true → length rest < 16 → found at (k ∷ rest) ≡ Bad (Cut at)
found_cut at k rest within kind short = grind (arith, nat_tests)

pub found_length : (at k : ℕ) (rest : List ℕ) → at + 17 ≤ capture_limit → is_kind k ≡ true → 16 ≤ length rest → is_length k (length_in (take 17 (k ∷ rest))) ≡ false → found at (k ∷ rest) ≡ Bad (Length at)
found_length at k rest within kind long bad = grind (arith, nat_tests)

pub found_body : (at k : ℕ) (rest : List ℕ) → at + 17 ≤ capture_limit → is_kind k ≡ true → 16 ≤ length rest → is_length k (length_in (take 17 (k ∷ rest))) ≡ true → found at (k ∷ rest) ≡ body_found at (take 17 (k ∷ rest)) (drop 17 (k ∷ rest))
found_body at k rest within kind long good = grind (arith, nat_tests)

-- the first byte of a front of the head, and what follows it
pub head_front : (hs : List ℕ) (got : ℕ) (rest : List ℕ) → 0 < got → length hs ≡ 17 → take got hs ++ rest ≡ get_or hs 0 0 ∷ (take (got - 1) (drop 1 hs) ++ rest)
head_front [] got rest some long = absurd (omega arith)
head_front (k ∷ ks) zero rest some long = absurd (omega arith)
head_front (k ∷ ks) (suc n) rest some long = let same : n ≡ suc n - 1 = omega arith in ap (λ m. k ∷ (take m ks ++ rest)) same

pub head_rest : (hs : List ℕ) (got : ℕ) (rest : List ℕ) → got ≤ 17 → length hs ≡ 17 → length (take (got - 1) (drop 1 hs) ++ rest) ≡ (got - 1) + length rest
head_rest hs got rest most long = simp (length-append, length-take, length-drop) (omega arith)

pub head_whole : (hs rest : List ℕ) → length hs ≡ 17 → (take 17 (take 17 hs ++ rest) ≡ hs) × (drop 17 (take 17 hs ++ rest) ≡ rest)
head_whole hs rest long =
    let all : take 17 hs ≡ hs = take_all 17 hs (omega arith) in
    (ap (λ l. take 17 (l ++ rest)) all ∙ take_at hs rest 17 long, ap (λ l. drop 17 (l ++ rest)) all ∙ drop_at hs rest 17 long)

-- The same for a head of which `got` bytes were read, and what follows them.
pub front_kind : (hs : List ℕ) (got at : ℕ) (rest : List ℕ) → 0 < got → length hs ≡ 17 → at + 1 ≤ capture_limit → is_kind (get_or hs 0 0) ≡ false → found at (take got hs ++ rest) ≡ Bad (Kind at)
front_kind hs got at rest some long within kind =
    ap (found at) (head_front hs got rest some long) ∙ found_kind at (get_or hs 0 0) (take (got - 1) (drop 1 hs) ++ rest) within kind

pub front_limit : (hs : List ℕ) (got at : ℕ) (rest : List ℕ) → 0 < got → got ≤ 17 → length hs ≡ 17 → at + 1 ≤ capture_limit → capture_limit < at + got → is_kind (get_or hs 0 0) ≡ true → found at (take got hs ++ rest) ≡ Bad Limit
front_limit hs got at rest some most long within past kind =
    let more = head_rest hs got rest most long in
    ap (found at) (head_front hs got rest some long) ∙ found_limit at (get_or hs 0 0) (take (got - 1) (drop 1 hs) ++ rest) within kind (omega arith) (omega arith)

pub front_cut : (hs : List ℕ) (got at : ℕ) (rest : List ℕ) → 0 < got → got < 17 → length hs ≡ 17 → at + got ≤ capture_limit → rest ≡ [] → is_kind (get_or hs 0 0) ≡ true → found at (take got hs ++ rest) ≡ Bad (Cut at)
front_cut hs got at rest some most long within end kind =
    let more = head_rest hs got rest (omega arith) long in
    let empty : length rest ≡ 0 = ap length end in
    ap (found at) (head_front hs got rest some long) ∙ found_cut at (get_or hs 0 0) (take (got - 1) (drop 1 hs) ++ rest) (omega arith) kind (omega arith)

same_head : (hs rest : List ℕ) → length hs ≡ 17 → take 17 (get_or hs 0 0 ∷ (take (17 - 1) (drop 1 hs) ++ rest)) ≡ hs
same_head hs rest long = ap (take 17) (sym (head_front hs 17 rest (omega arith) long)) ∙ (head_whole hs rest long).0

pub front_length : (hs : List ℕ) (at : ℕ) (rest : List ℕ) → length hs ≡ 17 → at + 17 ≤ capture_limit → is_kind (get_or hs 0 0) ≡ true → is_length (get_or hs 0 0) (length_in hs) ≡ false → found at (take 17 hs ++ rest) ≡ Bad (Length at)
front_length hs at rest long within kind bad =
    let more = head_rest hs 17 rest (omega arith) long in
    ap (found at) (head_front hs 17 rest (omega arith) long)
    ∙ found_length at (get_or hs 0 0) (take (17 - 1) (drop 1 hs) ++ rest) within kind (omega arith) (ap (λ l. is_length (get_or hs 0 0) (length_in l)) (same_head hs rest long) ∙ bad)

pub front_body : (hs : List ℕ) (at : ℕ) (rest : List ℕ) → length hs ≡ 17 → at + 17 ≤ capture_limit → is_kind (get_or hs 0 0) ≡ true → is_length (get_or hs 0 0) (length_in hs) ≡ true
    → found at (take 17 hs ++ rest) ≡ body_found at (take 17 (take 17 hs ++ rest)) (drop 17 (take 17 hs ++ rest))
front_body hs at rest long within kind good =
    let more = head_rest hs 17 rest (omega arith) long in
    let P : List ℕ → Type 0 = λ l. found at l ≡ body_found at (take 17 l) (drop 17 l) in
    subst P (sym (head_front hs 17 rest (omega arith) long))
    (found_body at (get_or hs 0 0) (take (17 - 1) (drop 1 hs) ++ rest) within kind (omega arith) (ap (λ l. is_length (get_or hs 0 0) (length_in l)) (same_head hs rest long) ∙ good))

-- from what was read into a front of the head to the whole head
pub head_ok : (at got : ℕ) (head buf xs ys : List ℕ) → got ≡ 17 → length head ≡ 17 → take got buf ≡ take got head → xs ≡ take got buf ++ ys
    → found at (take got head ++ ys) ≡ body_found at (take 17 (take got head ++ ys)) (drop 17 (take got head ++ ys)) → (xs ≡ head ++ ys) × (found at xs ≡ body_found at head ys)
head_ok at got head buf xs ys all long same is body =
    let whole = head_whole head ys long in
    let front : take got head ≡ head = take_all got head (omega arith) in
    let e : xs ≡ head ++ ys = is ∙ ap (λ l. l ++ ys) (same ∙ front) in
    let P : List ℕ → Type 0 = λ h. found at (h ++ ys) ≡ body_found at (take 17 (h ++ ys)) (drop 17 (h ++ ys)) in
    let b : P head = subst P front body in
    (e, ap (found at) e ∙ b ∙ ap (λ h. body_found at h (drop 17 (head ++ ys))) (take_at head ys 17 long) ∙ ap (body_found at head) (drop_at head ys 17 long))

pub head_err : (e : CaptureError) (at got : ℕ) (head buf xs ys : List ℕ) → take got buf ≡ take got head → xs ≡ take got buf ++ ys → found at (take got head ++ ys) ≡ Bad e → found at xs ≡ Bad e
head_err e at got head buf xs ys same is h = ap (found at) (is ∙ ap (λ l. l ++ ys) same) ∙ h

-- fewer than eight bytes don't begin with the magic
pub short_magic : (got : ℕ) (buf xs ys more : List ℕ) → got ≤ length buf → got < 8 → xs ≡ take got buf ++ ys → ys ≡ [] → xs ≡ magic ++ more → ⊥
short_magic got buf xs ys more within short is end begins =
    let left : length xs ≡ got = ap length is ∙ simp length-append (ap (λ n. n + length ys) (length-take-le got buf within) ∙ (ap (λ l. got + length l) end ∙ add-zero got)) in
    let right : length xs ≡ 8 + length more = ap length begins ∙ length-append magic more in
    omega arith

pub body_limit : (at got : ℕ) (head buf xs ys : List ℕ) → got ≤ length buf → got ≤ length_in head → capture_limit < at + 17 + got → xs ≡ take got buf ++ ys → body_found at head xs ≡ Bad Limit
body_limit at got head buf xs ys within most past is =
    let long : length xs ≡ got + length ys = ap length is ∙ simp length-append (ap (λ n. n + length ys) (length-take-le got buf within)) in
    grind (arith, nat_tests)

pub body_whole : (at got : ℕ) (head buf body xs ys : List ℕ) → got ≡ length buf → got ≡ length_in head → at + 17 + got ≤ capture_limit → body ≡ buf → xs ≡ take got buf ++ ys → body_found at head xs ≡ Whole (frame_of head body) ys
body_whole at got head buf body xs ys all stated within same is =
    let front : take got buf ≡ buf = take_all got buf (omega arith) in
    let split : xs ≡ buf ++ ys = is ∙ ap (λ l. l ++ ys) front in
    let long : length xs ≡ got + length ys = ap length split ∙ simp length-append (ap (λ n. n + length ys) (sym all)) in
    let len : length buf ≡ length_in head = sym all ∙ stated in
    let taken : take (length_in head) xs ≡ body = ap (take (length_in head)) split ∙ take_at buf ys (length_in head) len ∙ sym same in
    let rest : drop (length_in head) xs ≡ ys = ap (drop (length_in head)) split ∙ drop_at buf ys (length_in head) len in
    let tests : body_found at head xs ≡ Whole (frame_of head (take (length_in head) xs)) (drop (length_in head) xs) = grind (arith, nat_tests) in
    tests ∙ ap (λ l. Whole (frame_of head l) (drop (length_in head) xs)) taken ∙ ap (Whole (frame_of head body)) rest
