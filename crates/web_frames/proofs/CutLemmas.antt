-- A payload that is cut into two pieces.
use Rattle.std.proofs.Common.{◌≡◌, ℕ, ◌+◌, ◌-◌, ◌<◌, ◌≤◌, ◌%◌, Bool, true, false, List, [], ◌∷◌, ◌++◌, length, take, drop, min, get_or, refl, sym, subst, ap, ◌∙◌, arith, append_assoc, append-nil, length-append, length-take, length-drop, Result, Ok, Err, Option, None, Some}
use Rattle.std.specs.Prelude.{nat_lt, option_map}
use Rattle.std.proofs.lemmas.Bool.Decides.{nat_tests}
use Rattle.std.proofs.lemmas.List.{take_at, take_all, drop_all, drop_at, drop-drop, take-append-drop, get_or_append_left, get_or-append_right, get_or-drop, get_or-take, ext_get_or}
use Rattle.websocket.specs.FrameHeader.{IsMask}
use Rattle.websocket.specs.Mask.{apply_mask_if, mask_from}
use Rattle.web_frames.specs.declared.arrival.Arrival.TheVariants as arrival
use Rattle.web_frames.specs.declared.breach.Breach.{Breach}
use Rattle.web_frames.specs.declared.frames.Frame.{Frame}
use Rattle.web_frames.specs.Messages.{Open, added}
use Rattle.web_frames.specs.Reading.{Look, Reading, finds, on_added, on_frame_end, on_payload, on_taken, rest_of, turned}
use Rattle.web_frames.proofs.JoinLemmas.{added-joined}
use Rattle.web_frames.proofs.LookLemmas.{on_payload-some}

-- ---- a key of four bytes that is turned

length-turned : (key : List ℕ) (n : ℕ) → length key ≡ 4 → length (turned key n) ≡ 4
length-turned key n four = omega (arith, length-append (drop (n % 4) key) (take (n % 4) key), length-drop (n % 4) key, length-take (n % 4) key)

get_or-turned_low : (key : List ℕ) (m j : ℕ) → m + j < length key → get_or (drop m key ++ take m key) j 0 ≡ get_or key (m + j) 0
get_or-turned_low key m j h =
    let low : j < length (drop m key) = omega (arith, length-drop m key) in
    get_or_append_left (drop m key) (take m key) 0 j low ∙ get_or-drop m key j 0

get_or-turned_high : (key : List ℕ) (m j : ℕ) → m ≤ length key → j < length key → length key ≤ m + j → get_or (drop m key ++ take m key) j 0 ≡ get_or key (m + j - length key) 0
get_or-turned_high key m j fits below h =
    let long : length (drop m key) ≡ length key - m = length-drop m key in
    let high : length key - m ≤ j = omega arith in
    let same : j - (length key - m) ≡ m + j - length key = omega arith in
    let inside : m + j - length key < m = omega arith in
    get_or-append_right (drop m key) (take m key) (length key - m) j 0 long high
    ∙ ap (λ i. get_or (take m key) i 0) same
    ∙ get_or-take m key (m + j - length key) 0 inside

get_or-turned_by : (key : List ℕ) (m j : ℕ) (b : Bool) → nat_lt (m + j) 4 ≡ b → length key ≡ 4 → m < 4 → j < 4 → get_or (drop m key ++ take m key) j 0 ≡ get_or key ((m + j) % 4) 0
get_or-turned_by key m j true is four low below =
    let sum : m + j < 4 = grind (arith, nat_tests) in
    let inside : m + j < length key = omega arith in
    let same : m + j ≡ (m + j) % 4 = omega arith in
    get_or-turned_low key m j inside ∙ ap (λ i. get_or key i 0) same
get_or-turned_by key m j false is four low below =
    let sum : 4 ≤ m + j = grind (arith, nat_tests) in
    let fits : m ≤ length key = omega arith in
    let short : j < length key = omega arith in
    let over : length key ≤ m + j = omega arith in
    let same : m + j - length key ≡ (m + j) % 4 = omega arith in
    get_or-turned_high key m j fits short over ∙ ap (λ i. get_or key i 0) same

get_or-turned : (key : List ℕ) (n i : ℕ) → length key ≡ 4 → get_or (turned key n) (i % 4) 0 ≡ get_or key ((n + i) % 4) 0
get_or-turned key n i four =
    let low : n % 4 < 4 = omega arith in
    let below : i % 4 < 4 = omega arith in
    let same : (n % 4 + i % 4) % 4 ≡ (n + i) % 4 = omega arith in
    get_or-turned_by key (n % 4) (i % 4) (nat_lt (n % 4 + i % 4) 4) refl four low below ∙ ap (λ j. get_or key j 0) same

turned-turned : (key : List ℕ) (n m : ℕ) → length key ≡ 4 → turned key (n + m) ≡ turned (turned key n) m
turned-turned key n m four =
    ext_get_or 0 (turned key (n + m)) (turned (turned key n) m)
    (length-turned key (n + m) four ∙ sym (length-turned (turned key n) m (length-turned key n four)))
    (λ i h.
    let long : length (turned key (n + m)) ≡ 4 = length-turned key (n + m) four in
    let at : i ≡ i % 4 = omega arith in
    let same : (n + m + i) % 4 ≡ (n + (m + i)) % 4 = omega arith in
    ap (λ j. get_or (turned key (n + m)) j 0) at
    ∙ get_or-turned key (n + m) i four
    ∙ ap (λ j. get_or key j 0) same
    ∙ sym (get_or-turned key n (m + i) four)
    ∙ sym (get_or-turned (turned key n) m i (length-turned key n four))
    ∙ ap (λ j. get_or (turned (turned key n) m) j 0) (sym at))

mask_from-turned : (key : List ℕ) (n i : ℕ) (bs : List ℕ) → length key ≡ 4 → mask_from (turned key n) i bs ≡ mask_from key (n + i) bs
unfolding mask_from
mask_from-turned key n i [] four = refl
mask_from-turned key n i (b ∷ bs) four =
    let next : n + (i + 1) ≡ n + i + 1 = omega arith in
    rw (get_or-turned key n i four, mask_from-turned key n (i + 1) bs four, next)

mask_from-append : (key : List ℕ) (i : ℕ) (xs ys : List ℕ) → mask_from key i (xs ++ ys) ≡ mask_from key i xs ++ mask_from key (i + length xs) ys
unfolding mask_from
mask_from-append key i [] ys = let none : i ≡ i + 0 = omega arith in ap (λ j. mask_from key j ys) none
mask_from-append key i (x ∷ xs) ys =
    let next : i + 1 + length xs ≡ i + length (x ∷ xs) = omega arith in
    rw (mask_from-append key (i + 1) xs ys, next)

-- what is unmasked piece by piece is unmasked as one
apply_mask_if-append : (key : Option (List ℕ)) (xs ys : List ℕ) → IsMask key
    → apply_mask_if key (xs ++ ys) ≡ apply_mask_if key xs ++ apply_mask_if (option_map (λ k. turned k (length xs)) key) ys
apply_mask_if-append None xs ys h = refl
apply_mask_if-append (Some key) xs ys h =
    let begin : length xs + 0 ≡ 0 + length xs = omega arith in
    mask_from-append key 0 xs ys
    ∙ ap (λ l. mask_from key 0 xs ++ l) (ap (λ i. mask_from key i ys) (sym begin) ∙ sym (mask_from-turned key (length xs) 0 ys h.0))

turned_if : (key : Option (List ℕ)) (n m : ℕ) → IsMask key
    → option_map (λ k. turned k (n + m)) key ≡ option_map (λ k. turned k m) (option_map (λ k. turned k n) key)
turned_if None n m h = refl
turned_if (Some key) n m h = ap (λ k. Some k) (turned-turned key n m h.0)

-- ---- the looks

on_taken-same : (r : Reading) (f g : Frame) (n m : ℕ) (o : Open) (b : Bool) → f.is_final ≡ g.is_final → rest_of f n ≡ rest_of g m
    → on_taken r f n o b ≡ on_taken r g m o b
on_taken-same r f g n m o true final rest = ap (λ h. finds arrival.Nothing (record r { frame = Some h; message = Some o })) rest
on_taken-same r f g n m o false final rest = ap (λ b. on_frame_end r b o) final

-- a frame of which the same is left, after the same was added
on_added-same : (r : Reading) (f g : Frame) (n m : ℕ) (e : Result Open Breach) → f.is_final ≡ g.is_final → nat_lt n f.left ≡ nat_lt m g.left
    → rest_of f n ≡ rest_of g m → on_added r f n e ≡ on_added r g m e
on_added-same r f g n m (Err b) final more rest = refl
on_added-same r f g n m (Ok o) final more rest = on_taken-same r f g n m o (nat_lt n f.left) final rest ∙ ap (on_taken r g m o) more

abbrev frame_of : ℕ → Option (List ℕ) → Bool → Frame
frame_of left key is_final = record { left = left; key = key; is_final = is_final }

on_payload-first : (r : Reading) (f : Frame) (o after : Open) (xs : List ℕ) → r.message ≡ Some o → length xs < f.left
    → added o (apply_mask_if f.key xs) ≡ Ok after
    → on_payload (record r { input = xs }) f ≡ finds arrival.Nothing (record r { input = []; frame = Some (rest_of f (length xs)); message = Some after })
on_payload-first r f o after xs some short add =
    let least : length xs ≡ min f.left (length xs) = omega arith in
    let all : length xs ≤ length xs = omega arith in
    let more : nat_lt (length xs) f.left ≡ true = grind (arith, nat_tests) in
    on_payload-some (record r { input = xs }) f o (length xs) some least
    ∙ ap (λ i. on_added (record r { input = i; frame = None; message = None }) f (length xs) (added o (apply_mask_if f.key (take (length xs) xs)))) (drop_all (length xs) xs all)
    ∙ ap (λ p. on_added (record r { input = []; frame = None; message = None }) f (length xs) (added o (apply_mask_if f.key p))) (take_all (length xs) xs all)
    ∙ ap (on_added (record r { input = []; frame = None; message = None }) f (length xs)) add
    ∙ ap (on_taken (record r { input = []; frame = None; message = None }) f (length xs) after) more

on_payload-rest : (r : Reading) (f : Frame) (o after : Open) (xs ys : List ℕ) (m : ℕ) → IsMask f.key → r.message ≡ Some o → length xs < f.left
    → added o (apply_mask_if f.key xs) ≡ Ok after → m ≡ min (f.left - length xs) (length ys)
    → on_payload (record r { input = xs ++ ys }) f ≡ on_payload (record r { input = ys; message = Some after }) (rest_of f (length xs))
on_payload-rest r f o after xs ys m mask some short add is =
    let least : length xs + m ≡ min f.left (length (xs ++ ys)) = omega (arith, length-append xs ys) in
    let inside : m ≤ length ys = omega arith in
    let piece : length (take m ys) ≡ m = omega (arith, length-take m ys) in
    let front : length (xs ++ take m ys) ≡ length xs + m = omega (arith, length-append xs (take m ys)) in
    let split : xs ++ ys ≡ (xs ++ take m ys) ++ drop m ys = ap (λ l. xs ++ l) (sym (take-append-drop m ys)) ∙ sym (append_assoc xs (take m ys) (drop m ys)) in
    let taken : take (length xs + m) (xs ++ ys) ≡ xs ++ take m ys = ap (take (length xs + m)) split ∙ take_at (xs ++ take m ys) (drop m ys) (length xs + m) front in
    let left : drop (length xs + m) (xs ++ ys) ≡ drop m ys = ap (drop (length xs + m)) split ∙ drop_at (xs ++ take m ys) (drop m ys) (length xs + m) front in
    let more : nat_lt (length xs + m) f.left ≡ nat_lt m (f.left - length xs) = grind (arith, nat_tests) in
    let fewer : f.left - (length xs + m) ≡ f.left - length xs - m = omega arith in
    let rest : rest_of f (length xs + m) ≡ rest_of (rest_of f (length xs)) m
    = ap (λ n. frame_of n (option_map (λ k. turned k (length xs + m)) f.key) f.is_final) fewer
    ∙ ap (λ k. frame_of (f.left - length xs - m) k f.is_final) (turned_if f.key (length xs) m mask) in
    let joined : added o (apply_mask_if f.key (xs ++ take m ys)) ≡ added after (apply_mask_if (option_map (λ k. turned k (length xs)) f.key) (take m ys))
    = ap (added o) (apply_mask_if-append f.key xs (take m ys) mask) ∙ sym (added-joined o after (apply_mask_if f.key xs) (apply_mask_if (option_map (λ k. turned k (length xs)) f.key) (take m ys)) add) in
    on_payload-some (record r { input = xs ++ ys }) f o (length xs + m) some least
    ∙ ap (λ i. on_added (record r { input = i; frame = None; message = None }) f (length xs + m) (added o (apply_mask_if f.key (take (length xs + m) (xs ++ ys))))) left
    ∙ ap (λ p. on_added (record r { input = drop m ys; frame = None; message = None }) f (length xs + m) (added o (apply_mask_if f.key p))) taken
    ∙ ap (on_added (record r { input = drop m ys; frame = None; message = None }) f (length xs + m)) joined
    ∙ on_added-same (record r { input = drop m ys; frame = None; message = None }) f (rest_of f (length xs)) (length xs + m) m (added after (apply_mask_if (option_map (λ k. turned k (length xs)) f.key) (take m ys))) refl more rest
    ∙ sym (on_payload-some (record r { input = ys; message = Some after }) (rest_of f (length xs)) after m refl is)

pub on_payload-cut : (r : Reading) (f : Frame) (o after : Open) (xs ys : List ℕ) → IsMask f.key → r.message ≡ Some o → length xs < f.left
    → added o (apply_mask_if f.key xs) ≡ Ok after
    → (on_payload (record r { input = xs }) f ≡ finds arrival.Nothing (record r { input = []; frame = Some (rest_of f (length xs)); message = Some after }))
    × (on_payload (record r { input = xs ++ ys }) f ≡ on_payload (record r { input = ys; message = Some after }) (rest_of f (length xs)))
on_payload-cut r f o after xs ys mask some short add = (
  on_payload-first r f o after xs some short add,
  on_payload-rest r f o after xs ys (min (f.left - length xs) (length ys)) mask some short add refl,
)
