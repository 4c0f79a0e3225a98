-- Noting of touched keys: marks decide nothing but conflicts, and what was noted stays noted.
use Rattle.std.specs.Prelude.{ℕ, ◌+◌, ◌-◌, ◌≤◌, Bool, true, false, not, ◌||◌, ◌≡◌, List, [], ◌∷◌, ◌++◌, Option, Some, None, option_map, refl, if◌then◌else◌, map, length, nat_le, take, drop}
use Rattle.std.specs.List.{AllByRecursion}
use Rattle.std.proofs.Common.{ap, sym, ◌∙◌, subst, arith, zero, suc, take-take}
use Rattle.std.proofs.lemmas.Bool.{false≢true}
use Rattle.std.proofs.Math.Bool.{or-true}
use Rattle.etp_values.proofs.EachLemmas.{all-front, all-push}
use Rattle.request_scope.specs.Scope.{code_of}
use Rattle.store_machine.specs.Clash.{clash}
use Rattle.store_machine.specs.History.{value_after}
use Rattle.store_machine.specs.Laws.{ValuesStayBetween}
use Rattle.store_machine.specs.declared.journal.Entry.{Entry}
use Rattle.tx_stage.specs.Keys.{same_key, space_of}
use Rattle.tx_stage.specs.Looks.{key_of}
use Rattle.tx_stage.specs.SameKey.{same_key-equiv, same_key-is}
use Rattle.tx_stage.specs.Staging.{Transaction, has_space, is_touched, note_refusal}
use Rattle.tx_stage.specs.declared.error.StageError.{StageError}
use Rattle.tx_stage.specs.declared.error.StageError.TheVariants.{Keys, Space}
use Rattle.tx_stage.specs.declared.key.Key.{Key}
use Rattle.tx_stage.specs.declared.look.Looked.{Looked}
use Rattle.tx_stage.specs.declared.look.Want.{Want}
use Rattle.tx_stage.specs.declared.touch.Touch.{Touch}
use Rattle.session_core.specs.Noting.{found_by, found_noted, note, note_all, note_by}
use Rattle.session_core.specs.Serial.{AllNoted}
use Rattle.session_core.proofs.RetouchedLemmas.{retouched}

-- every mark is this one
abbrev pub marks : ℕ → List Touch → List Touch
marks m [] = []
marks m (t ∷ ts) = record { key = t.key; mark = m } ∷ marks m ts

abbrev pub marked : ℕ → Transaction → Transaction
marked m x = retouched (marks m x.touched) x

-- ---- the same is noted, and the same is refused

marks-touched : (m : ℕ) (ts : List Touch) (k : Key) → is_touched (marks m ts) k ≡ is_touched ts k
marks-touched m [] k = refl
marks-touched m (t ∷ ts) k = ap (λ b. same_key k t.key || b) (marks-touched m ts k)

marks-length : (m : ℕ) (ts : List Touch) → length (marks m ts) ≡ length ts
marks-length m [] = refl
marks-length m (t ∷ ts) = ap suc (marks-length m ts)

marks-append : (m : ℕ) (ts us : List Touch) → marks m (ts ++ us) ≡ marks m ts ++ marks m us
marks-append m [] us = refl
marks-append m (t ∷ ts) us = ap (λ l. record { key = t.key; mark = m } ∷ l) (marks-append m ts us)

-- why a key is refused, by the tests
abbrev refusal_if : Bool → Bool → Bool → Key → Option StageError
refusal_if may touched full k = if not may then Some (Space (space_of k)) else if touched then None else if full then Some Keys else None

marked-refusal : (m : ℕ) (x : Transaction) (k : Key) → note_refusal (marked m x) k ≡ note_refusal x k
marked-refusal m x k =
    ap (λ b. refusal_if (has_space x.spaces (space_of k)) b (nat_le 16384 (length (marks m x.touched))) k) (marks-touched m x.touched k)
    ∙ ap (λ n. refusal_if (has_space x.spaces (space_of k)) (is_touched x.touched k) (nat_le 16384 n) k) (marks-length m x.touched)

-- a key is added with this mark, unless it is there
abbrev noted_if : Bool → ℕ → Transaction → Key → Transaction
noted_if there q x k = if there then x else record x { touched = x.touched ++ record { key = k; mark = q } ∷ [] }

marked-noted_if : (m q : ℕ) (x : Transaction) (k : Key) (b : Bool) → marked m (noted_if b q x k) ≡ noted_if b m (marked m x) k
marked-noted_if m q x k true = refl
marked-noted_if m q x k false = ap (λ (ts : List Touch). retouched ts x) (marks-append m x.touched (record { key = k; mark = q } ∷ []))

marked-note_by : (m q : ℕ) (x : Transaction) (k : Key) (why : Option StageError) → marked m (note_by why q x k) ≡ note_by why m (marked m x) k
marked-note_by m q x k None = marked-noted_if m q x k (is_touched x.touched k) ∙ ap (λ b. noted_if b m (marked m x) k) (sym (marks-touched m x.touched k))
marked-note_by m q x k (Some e) = refl

marked-note : (m q : ℕ) (x : Transaction) (k : Key) → marked m (note q x k) ≡ note m (marked m x) k
marked-note m q x k = marked-note_by m q x k (note_refusal x k) ∙ ap (λ why. note_by why m (marked m x) k) (sym (marked-refusal m x k))

pub marked-notes : (m q : ℕ) (x : Transaction) (ks : List Key) → marked m (note_all q x ks) ≡ note_all m (marked m x) ks
marked-notes m q x [] = refl
marked-notes m q x (k ∷ ks) = marked-notes m q (note q x k) ks ∙ ap (λ (y : Transaction). note_all m y ks) (marked-note m q x k)

pub marked-found : (m q : ℕ) (x : Transaction) (ks : List Key) (ls : List Looked) → found_noted q x ks ls ≡ found_noted m (marked m x) ks ls
marked-found m q x [] ls = refl
marked-found m q x (k ∷ ks) ls =
    ap (λ (why : Option StageError). map (found_by (option_map code_of why)) (take 1 ls) ++ found_noted q (note q x k) ks (drop 1 ls)) (sym (marked-refusal m x k))
    ∙ ap (λ (l : List Looked). map (found_by (option_map code_of (note_refusal (marked m x) k))) (take 1 ls) ++ l)
    (marked-found m q (note q x k) ks (drop 1 ls) ∙ ap (λ (y : Transaction). found_noted m y ks (drop 1 ls)) (marked-note m q x k))

-- ---- what holds for all touches before a note, and after it

module _ (P : Touch → Type 0) (q : ℕ) where
  noted-before : (x : Transaction) (k : Key) (b : Bool) → AllByRecursion P (noted_if b q x k).touched → AllByRecursion P x.touched
  noted-before x k true a = a
  noted-before x k false a = all-front P x.touched _ a

  note-before : (x : Transaction) (k : Key) (why : Option StageError) → AllByRecursion P (note_by why q x k).touched → AllByRecursion P x.touched
  note-before x k None a = noted-before x k (is_touched x.touched k) a
  note-before x k (Some e) a = a

  pub notes-before : (x : Transaction) (ks : List Key) → AllByRecursion P (note_all q x ks).touched → AllByRecursion P x.touched
  notes-before x [] a = a
  notes-before x (k ∷ ks) a = note-before x k (note_refusal x k) (notes-before (note q x k) ks a)

  module _ (new : (k : Key) → P (record { key = k; mark = q })) where
    noted-after : (x : Transaction) (k : Key) (b : Bool) → AllByRecursion P x.touched → AllByRecursion P (noted_if b q x k).touched
    noted-after x k true a = a
    noted-after x k false a = all-push P x.touched _ a (new k)

    note-after : (x : Transaction) (k : Key) (why : Option StageError) → AllByRecursion P x.touched → AllByRecursion P (note_by why q x k).touched
    note-after x k None a = noted-after x k (is_touched x.touched k) a
    note-after x k (Some e) a = a

    pub notes-after : (x : Transaction) (ks : List Key) → AllByRecursion P x.touched → AllByRecursion P (note_all q x ks).touched
    notes-after x [] a = a
    notes-after x (k ∷ ks) a = notes-after (note q x k) ks (note-after x k (note_refusal x k) a)

pub marks-rise : (n q : ℕ) (ts : List Touch) → n ≤ q → AllByRecursion (λ (t : Touch). t.mark ≤ n) ts → AllByRecursion (λ (t : Touch). t.mark ≤ q) ts
marks-rise n q [] le a = tt
marks-rise n q (t ∷ ts) le a = (omega (arith, a.0, le), marks-rise n q ts le a.1)

-- ---- dataspaces stay as they are

noted_if-spaces : (q : ℕ) (x : Transaction) (k : Key) (b : Bool) → (noted_if b q x k).spaces ≡ x.spaces
noted_if-spaces q x k true = refl
noted_if-spaces q x k false = refl

note_by-spaces : (q : ℕ) (x : Transaction) (k : Key) (why : Option StageError) → (note_by why q x k).spaces ≡ x.spaces
note_by-spaces q x k None = noted_if-spaces q x k (is_touched x.touched k)
note_by-spaces q x k (Some e) = refl

-- ---- a key that is not refused was noted

touched-last : (ts : List Touch) (q : ℕ) (k : Key) → is_touched (ts ++ record { key = k; mark = q } ∷ []) k ≡ true
touched-last [] q k = ap (λ b. b || false) (same_key-equiv.refl k)
touched-last (t ∷ ts) q k = ap (λ b. same_key k t.key || b) (touched-last ts q k) ∙ or-true (same_key k t.key)

touched-more : (ts us : List Touch) (k : Key) → is_touched ts k ≡ true → is_touched (ts ++ us) k ≡ true
touched-more [] us k is = absurd (false≢true is)
touched-more (t ∷ ts) us k is = by (same_key k t.key) is (touched-more ts us k)
  where
    by : (b : Bool) → (b || is_touched ts k) ≡ true → (is_touched ts k ≡ true → is_touched (ts ++ us) k ≡ true) → (b || is_touched (ts ++ us) k) ≡ true
    by true is rest = refl
    by false is rest = rest is

noted-stays : (q : ℕ) (x : Transaction) (k l : Key) (b : Bool) → is_touched x.touched l ≡ true → is_touched (noted_if b q x k).touched l ≡ true
noted-stays q x k l true is = is
noted-stays q x k l false is = touched-more x.touched _ l is

note-stays : (q : ℕ) (x : Transaction) (k l : Key) (why : Option StageError) → is_touched x.touched l ≡ true → is_touched (note_by why q x k).touched l ≡ true
note-stays q x k l None is = noted-stays q x k l (is_touched x.touched k) is
note-stays q x k l (Some e) is = is

notes-stay : (q : ℕ) (x : Transaction) (ks : List Key) (l : Key) → is_touched x.touched l ≡ true → is_touched (note_all q x ks).touched l ≡ true
notes-stay q x [] l is = is
notes-stay q x (k ∷ ks) l is = notes-stay q (note q x k) ks l (note-stays q x k l (note_refusal x k) is)

note-notes : (q : ℕ) (x : Transaction) (k : Key) (may there full : Bool) → may ≡ true → is_touched x.touched k ≡ there → (refusal_if may there full k ≡ Some Keys → ⊥)
    → is_touched (note_by (refusal_if may there full k) q x k).touched k ≡ true
note-notes q x k false there full in_space is few = absurd (false≢true in_space)
note-notes q x k true true full in_space is few = noted-stays q x k k (is_touched x.touched k) is
note-notes q x k true false true in_space is few = absurd (few refl)
note-notes q x k true false false in_space is few = subst (λ b. is_touched (noted_if b q x k).touched k ≡ true) (sym is) (touched-last x.touched q k)

-- the same keys are refused, whatever the marks
same_but_marks : (x y : Transaction) (ks : List Key) → marked 0 x ≡ marked 0 y → AllNoted x ks → AllNoted y ks
same_but_marks x y [] same all = tt
same_but_marks x y (k ∷ ks) same all = (
  (λ is. all.0 (sym (marked-refusal 0 x k) ∙ ap (λ (z : Transaction). note_refusal z k) same ∙ marked-refusal 0 y k ∙ is)),
  same_but_marks (note 0 x k) (note 0 y k) ks (marked-note 0 0 x k ∙ ap (λ (z : Transaction). note 0 z k) same ∙ sym (marked-note 0 0 y k)) all.1,
)

-- all keys that are looked at in dataspaces that may be touched are touched, if none was refused because there were too many
pub all_touched : (q : ℕ) (x : Transaction) (ws : List Want) → AllByRecursion (λ w. has_space x.spaces (space_of (key_of w)) ≡ true) ws → AllNoted x (map key_of ws)
    → AllByRecursion (λ w. is_touched (note_all q x (map key_of ws)).touched (key_of w) ≡ true) ws
all_touched q x [] spaces all = tt
all_touched q x (w ∷ ws) spaces all =
    let k = key_of w in
    let now = note-notes q x k (has_space x.spaces (space_of k)) (is_touched x.touched k) (nat_le 16384 (length x.touched)) spaces.0 refl all.0 in
    let rest = same_but_marks (note 0 x k) (note q x k) (map key_of ws) (marked-note 0 0 x k ∙ sym (marked-note 0 q x k)) all.1 in
    let same : x.spaces ≡ (note q x k).spaces = sym (note_by-spaces q x k (note_refusal x k)) in
    (notes-stay q (note q x k) (map key_of ws) k now, all_touched q (note q x k) ws (subst (λ (ps : List (List ℕ)). AllByRecursion (λ w. has_space ps (space_of (key_of w)) ≡ true) ws) same spaces.1) rest)

-- ---- a key that was touched, and was not altered up to the commit

-- it has a mark, at most this number, from which nothing clashes
record Clear (history : List Entry) (q : ℕ) (k : Key) : Type 0 where
  mark : ℕ
  within : mark ≤ q
  free : clash k mark history ≡ None

abbrev pub AreWithin : ℕ → List Touch → Type 0
AreWithin n ts = AllByRecursion (λ (t : Touch). t.mark ≤ n) ts

abbrev pub AreFree : List Entry → List Touch → Type 0
AreFree h ts = AllByRecursion (λ (t : Touch). clash t.key t.mark h ≡ None) ts

touched-clear : (history : List Entry) (q : ℕ) (ts : List Touch) (k : Key) → is_touched ts k ≡ true → AreWithin q ts → AreFree history ts → Clear history q k
touched-clear history q [] k h below free = absurd (false≢true h)
touched-clear history q (t ∷ ts) k h below free = by (same_key k t.key) refl h (λ r. touched-clear history q ts k r below.1 free.1)
  where
    by : (b : Bool) → same_key k t.key ≡ b → (b || is_touched ts k) ≡ true → (is_touched ts k ≡ true → Clear history q k) → Clear history q k
    by true e h rest = record { mark = t.mark; within = below.0; free = subst (λ x. clash x t.mark history ≡ None) (sym (same_key-is k t.key e)) free.0 }
    by false e h rest = rest h

pub take-short : {X : Type 0} (q : ℕ) (xs : List X) → length (take q xs) ≤ q
take-short zero xs = omega arith
take-short (suc q) [] = omega arith
take-short (suc q) (x ∷ xs) = let r = take-short q xs in omega (arith, r)

module _ (between : ValuesStayBetween) (h : List Entry) (q p : ℕ) (le : q ≤ p) where
  -- the value at the place of the look is that at the place of the commit
  value-clear : (k : Key) → Clear (take p h) q k → value_after k (take q h) ≡ value_after k (take p h)
  value-clear k c =
      let n : c.mark + (q - c.mark) ≡ q = omega (arith, c.within) in
      ap (value_after k) (sym (take-take q p h le)) ∙ ap (λ i. value_after k (take i (take p h))) (sym n) ∙ between k c.mark (q - c.mark) (take p h) c.free

  pub wants-clear : (ts : List Touch) (ws : List Want) → AllByRecursion (λ w. is_touched ts (key_of w) ≡ true) ws → AreWithin q ts → AreFree (take p h) ts
      → AllByRecursion (λ w. value_after (key_of w) (take p h) ≡ value_after (key_of w) (take q h)) ws
  wants-clear ts [] all below free = tt
  wants-clear ts (w ∷ ws) all below free = (sym (value-clear (key_of w) (touched-clear (take p h) q ts (key_of w) all.0 below free)), wants-clear ts ws all.1 below free)
