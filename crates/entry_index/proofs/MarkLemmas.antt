-- The marks of a chain's places, from its last place back.
use Rattle.std.proofs.Common.{ℕ, zero, suc, ◌+◌, ◌-◌, ◌<◌, ◌≤◌, Bool, true, false, ◌||◌, List, [], ◌∷◌, ◌++◌, max, ◌≡◌, refl, sym, ap, ◌∙◌, arith}
use Rattle.std.specs.Prelude.{nat_le, slice_set, ◌==◌, ◌&&◌}
use Rattle.std.specs.List.{AllByRecursion, list_any}
use Rattle.std.proofs.lemmas.Bool.Decides.{nat_tests}
use Rattle.std.proofs.lemmas.List.Folds.{list_any-append}
use Rattle.std.proofs.Math.Bool.{or-true}
use Rattle.etp_values.proofs.BoolLemmas.{by_test, differs}
use Rattle.etp_values.proofs.EachLemmas.{all-push, all-weaker}
use Rattle.entry_index.specs.declared.chains.Step.{Step}
use Rattle.entry_index.specs.Chains.{chain}
use Rattle.entry_index.specs.Marks.{marked_places}
use Rattle.entry_index.specs.Steps.{chains_of}
use Rattle.entry_index.proofs.ChainLemmas.{nat_le-true, IsStepOf}

-- whether a place is one of these
abbrev at : ℕ → List ℕ → Bool
at q ps = list_any (λ p. p == q) ps

at-push : (q p : ℕ) (ps : List ℕ) → at q (ps ++ p ∷ []) ≡ (at q ps || ((p == q) || false))
at-push q p ps = list_any-append (λ r. r == q) ps (p ∷ [])

or-false-twice : (b : Bool) → (b || (false || false)) ≡ b
or-false-twice true = refl
or-false-twice false = refl

at-other : (q p : ℕ) (ps : List ℕ) → (p == q) ≡ false → at q (ps ++ p ∷ []) ≡ at q ps
at-other q p ps h = at-push q p ps ∙ ap (λ t. at q ps || (t || false)) h ∙ or-false-twice (at q ps)

at-itself : (q p : ℕ) (ps : List ℕ) → (p == q) ≡ true → at q (ps ++ p ∷ []) ≡ true
at-itself q p ps h = at-push q p ps ∙ ap (λ t. at q ps || (t || false)) h ∙ or-true (at q ps)

at-nowhere : (q low : ℕ) (ps : List ℕ) → AllByRecursion (λ p. p < low) ps → low ≤ q → at q ps ≡ false
at-nowhere q low [] all h = refl
at-nowhere q low (p ∷ ps) all h = ap (λ t. t || at q ps) (differs p q (omega (arith, all.0, h))) ∙ at-nowhere q low ps all.1 h

-- places that are the same where marks are set produce the same marks
marked-alike : (from first : ℕ) (ps qs : List ℕ) (ms : List Bool) → ((q : ℕ) → from ≤ q → first ≤ q → at q ps ≡ at q qs) → marked_places from first ps ms ≡ marked_places from first qs ms
marked-alike from first ps qs [] same = refl
marked-alike from first ps qs (b ∷ bs) same =
    let here : (nat_le from first && at first ps) ≡ (nat_le from first && at first qs) = by_test (nat_le from first)
    (λ h. ap (λ t. t && at first ps) h ∙ same first (reached from first h) (omega arith) ∙ sym (ap (λ t. t && at first qs) h))
    (λ h. ap (λ t. t && at first ps) h ∙ sym (ap (λ t. t && at first qs) h)) in
    (λ j. (b || here j) ∷ marked-alike from (first + 1) ps qs bs (λ q on past. same q on (omega (arith, past))) j)
  where
    reached : (a b : ℕ) → nat_le a b ≡ true → a ≤ b
    reached a b h = grind (arith, nat_tests, h)

or-and-false : (b a : Bool) → (b || (a && false)) ≡ b
or-and-false true a = refl
or-and-false false true = refl
or-and-false false false = refl

pub marked-nothing : (from first : ℕ) (ms : List Bool) → marked_places from first [] ms ≡ ms
marked-nothing from first [] = refl
marked-nothing from first (b ∷ bs) = (λ j. or-and-false b (nat_le from first) j ∷ marked-nothing from (first + 1) bs j)

-- places before the first that counts
pub marked-before : (from first low : ℕ) (ps : List ℕ) (ms : List Bool) → low ≡ max from first → AllByRecursion (λ p. p < low) ps → ms ≡ marked_places from first ps ms
marked-before from first low ps ms is all =
    sym (marked-alike from first ps [] ms (λ q on past. at-nowhere q low ps all (least q from first low is on past)) ∙ marked-nothing from first ms)
  where
    least : (q from first low : ℕ) → low ≡ max from first → from ≤ q → first ≤ q → low ≤ q
    least q from first low is on past = omega (arith, is, on, past)

-- the mark of a last place is set
set-true : (b a t : Bool) → a ≡ true → t ≡ true → (b || (a && t)) ≡ true
set-true b a t h k = (λ j. b || (h j && k j)) ∙ or-true b

marked-last : (from first p k : ℕ) (ps : List ℕ) (ms : List Bool) → from ≤ p → p ≡ first + k → marked_places from first (ps ++ p ∷ []) ms ≡ marked_places from first ps (slice_set ms k true)
marked-last from first p k ps [] on is = refl
marked-last from first p zero ps (b ∷ bs) on is =
    let here : (p == first) ≡ true = same p first is in
    let low : from ≤ first = omega (arith, on, is) in
    (λ j. set-true b (nat_le from first) (at first (ps ++ p ∷ [])) (nat_le-true from first low) (at-itself first p ps here) j
    ∷ marked-alike from (first + 1) (ps ++ p ∷ []) ps bs (λ q reached past. at-other q p ps (before p first q is past)) j)
  where
    same : (p first : ℕ) → p ≡ first + 0 → (p == first) ≡ true
    same p first h = grind (arith, nat_tests, h)

    before : (p first q : ℕ) → p ≡ first + 0 → first + 1 ≤ q → (p == q) ≡ false
    before p first q h past = grind (arith, nat_tests, h, past)
marked-last from first p (suc k) ps (b ∷ bs) on is =
    let there : (p == first) ≡ false = later p first k is in
    (λ j. (b || (nat_le from first && at-other first p ps there j)) ∷ marked-last from (first + 1) p k ps bs on (omega (arith, is)) j)
  where
    later : (p first k : ℕ) → p ≡ first + suc k → (p == first) ≡ false
    later p first k h = grind (arith, nat_tests, h)

-- ---- step by step

-- a step whose mark is set
pub marks-on : (steps : List Step) (n from first low : ℕ) (s : Step) (marks whole : List Bool) → IsStepOf steps n s → low ≡ max from first → low ≤ s.place
    → marked_places from first (chain (chains_of steps) n) marks ≡ whole
    → marked_places from first (chain (chains_of steps) s.before) (slice_set marks (s.place - first) true) ≡ whole
marks-on steps n from first low s marks whole is least on h =
    let xs = chain (chains_of steps) s.before in
    sym (marked-last from first s.place (s.place - first) xs marks (omega (arith, least, on)) (omega (arith, least, on)))
    ∙ (λ j. marked_places from first (sym is.chain_is j) marks) ∙ h

-- a step before the first place that counts
pub marks-before : (steps : List Step) (n from first low : ℕ) (s : Step) (marks whole : List Bool) → IsStepOf steps n s → low ≡ max from first → s.place < low
    → marked_places from first (chain (chains_of steps) n) marks ≡ whole → marks ≡ whole
marks-before steps n from first low s marks whole is least before h =
    let xs = chain (chains_of steps) s.before in
    let all : AllByRecursion (λ p. p < low) xs = all-weaker (λ p. p ≤ s.place) (λ p. p < low) (λ p b. omega (arith, b, before)) xs is.rises in
    marked-before from first low (xs ++ s.place ∷ []) marks least (all-push (λ p. p < low) xs s.place all before)
    ∙ (λ j. marked_places from first (sym is.chain_is j) marks) ∙ h
