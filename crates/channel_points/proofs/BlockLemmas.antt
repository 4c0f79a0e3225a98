-- The item at a place of rows.
use Rattle.std.proofs.Common.{refl, ℕ, zero, suc, ◌≡◌, ◌<◌, ◌≤◌, ◌+◌, ◌*◌, List, [], ◌∷◌, ◌++◌, length, ap, sym, ◌∙◌, arith, append_assoc, length-append, Some, None}
use Rattle.std.specs.Prelude.{slice_get}
use Rattle.std.specs.List.{AllByRecursion}
use Rattle.channel_points.specs.Blocks.{joined, room_of, IsRows}

module _ {X : Type 0} where
  pub joined-push : (full : List (List X)) (b last : List X) → joined (full ++ b ∷ []) last ≡ joined full (b ++ last)
  joined-push [] b last = refl
  joined-push (c ∷ cs) b last = ap (λ l. c ++ l) (joined-push cs b last)

  pub joined-append : (full : List (List X)) (last more : List X) → joined full (last ++ more) ≡ joined full last ++ more
  joined-append [] last more = refl
  joined-append (b ∷ bs) last more = ap (λ l. b ++ l) (joined-append bs last more) ∙ sym (append_assoc b (joined bs last) more)

  pub get-front : (xs ys : List X) (k : ℕ) → k < length xs → slice_get (xs ++ ys) k ≡ slice_get xs k
  get-front [] ys k h = absurd (omega arith)
  get-front (x ∷ xs) ys zero h = refl
  get-front (x ∷ xs) ys (suc k) h = get-front xs ys k (omega arith)

  pub get-back : (xs ys : List X) (k place : ℕ) → place ≡ length xs + k → slice_get (xs ++ ys) place ≡ slice_get ys k
  get-back [] ys k place e = ap (slice_get ys) (omega (arith, e))
  get-back (x ∷ xs) ys k zero e = absurd (omega arith)
  get-back (x ∷ xs) ys k (suc place) e = get-back xs ys k place (omega arith)

  pub get-block : (full : List (List X)) (last b : List X) (q r place : ℕ) → AllByRecursion (λ b. length b ≡ 1024) full → place ≡ q * 1024 + r → r < 1024 → slice_get full q ≡ Some b
      → slice_get (joined full last) place ≡ slice_get b r
  get-block [] last b q r place filled e h there = cc
  get-block (c ∷ cs) last b zero r place filled e h there =
      let here : c ≡ b = cc in
      let same : place ≡ r = omega arith in
      let within : place < length c = omega (arith, filled.0) in
      get-front c (joined cs last) place within ∙ (λ j. slice_get (here j) (same j))
  get-block (c ∷ cs) last b (suc q) r place filled e h there =
      get-back c (joined cs last) (q * 1024 + r) place (omega (arith, filled.0)) ∙ get-block cs last b q r (q * 1024 + r) filled.1 refl h there

  pub get-last : (full : List (List X)) (last : List X) (k place : ℕ) → AllByRecursion (λ b. length b ≡ 1024) full → place ≡ length full * 1024 + k → slice_get (joined full last) place ≡ slice_get last k
  get-last [] last k place filled e = ap (slice_get last) (omega arith)
  get-last (c ∷ cs) last k place filled e =
      get-back c (joined cs last) (length cs * 1024 + k) place (omega (arith, filled.0)) ∙ get-last cs last k (length cs * 1024 + k) filled.1 refl

  pub past-none : (xs : List X) (k : ℕ) → slice_get xs k ≡ None → length xs ≤ k
  past-none [] k h = omega arith
  past-none (x ∷ xs) zero h = cc
  past-none (x ∷ xs) (suc k) h = let rest : length xs ≤ k = past-none xs k h in omega arith

  -- one more item if there is room
  pub pushed-is : (full : List (List X)) (last new : List X) (item : X) (len cap count : ℕ) → len ≡ length last → 0 < room_of len cap count → IsRows full last count → new ≡ last ++ item ∷ [] → IsRows full new (count + 1)
  pushed-is full last new item len cap count size room rows e =
      let grown : length new ≡ length last + 1 = ap length e ∙ length-append last (item ∷ []) in
      let all : length (joined full new) ≡ length (joined full last) + 1 = ap (λ l. length (joined full l)) e ∙ ap length (joined-append full last (item ∷ [])) ∙ length-append (joined full last) (item ∷ []) in
      record {
        parts = record { filled = rows.parts.filled; within = omega (arith, rows.parts.within) };
        counted = omega (arith, rows.counted);
      }
