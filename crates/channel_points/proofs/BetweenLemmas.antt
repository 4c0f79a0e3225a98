-- An interval of the points of chunks, chunk by chunk.
use Rattle.std.proofs.Common.{refl, ℕ, zero, suc, ◌≡◌, ◌<◌, ◌≤◌, ◌+◌, ◌-◌, Bool, true, false, List, [], ◌∷◌, ◌++◌, length, take, drop, get_or, ap, sym, ◌∙◌, arith, append-nil, append_assoc, length-drop}
use Rattle.std.specs.Prelude.{min, nat_le}
use Rattle.std.proofs.lemmas.Bool.Decides.{nat_tests}
use Rattle.std.proofs.Math.Seq.{take-append-add, drop-append-add}
use Rattle.std.proofs.lemmas.List.{take-append-le, drop-append-le, take_all, drop_all}
use Rattle.channel_points.specs.Blocks.{joined}

module _ {X : Type 0} where
  pub drop-split : (xs ys : List X) (s f : ℕ) → f ≡ min s (length xs) → drop s (xs ++ ys) ≡ drop f xs ++ drop (s - f) ys
  drop-split xs ys s f e = by (nat_le s (length xs)) refl
    where
      by : (b : Bool) → nat_le s (length xs) ≡ b → drop s (xs ++ ys) ≡ drop f xs ++ drop (s - f) ys
      by true h =
          let le : s ≤ length xs = grind (arith, nat_tests) in
          let same : f ≡ s = omega arith in
          let none : s - f ≡ 0 = omega arith in
          drop-append-le s xs ys le ∙ (λ j. drop (sym same j) xs ++ drop (sym none j) ys)
      by false h =
          let past : length xs < s = grind (arith, nat_tests) in
          let same : f ≡ length xs = omega arith in
          let sum : length xs + (s - f) ≡ s = omega arith in
          ap (λ n. drop n (xs ++ ys)) (sym sum) ∙ drop-append-add xs ys (s - f) ∙ ap (λ l. l ++ drop (s - f) ys) (sym (drop_all f xs (omega arith)))

  pub take-split : (xs ys : List X) (l c : ℕ) → c ≡ min l (length xs) → take l (xs ++ ys) ≡ take c xs ++ take (l - c) ys
  take-split xs ys l c e = by (nat_le l (length xs)) refl
    where
      by : (b : Bool) → nat_le l (length xs) ≡ b → take l (xs ++ ys) ≡ take c xs ++ take (l - c) ys
      by true h =
          let le : l ≤ length xs = grind (arith, nat_tests) in
          let same : c ≡ l = omega arith in
          let none : l - c ≡ 0 = omega arith in
          take-append-le l xs ys le ∙ sym (append-nil (take l xs)) ∙ (λ j. take (sym same j) xs ++ take (sym none j) ys)
      by false h =
          let past : length xs < l = grind (arith, nat_tests) in
          let same : c ≡ length xs = omega arith in
          let sum : length xs + (l - c) ≡ l = omega arith in
          ap (λ n. take n (xs ++ ys)) (sym sum) ∙ take-append-add xs ys (l - c) ∙ ap (λ x. x ++ take (l - c) ys) (sym (take_all c xs (omega arith)))

  -- what an interval has of a first part, and what it has of the rest
  pub between-step : (b r : List X) (s l f c : ℕ) → f ≡ min s (length b) → c ≡ min l (length b - f) → take l (drop s (b ++ r)) ≡ take c (drop f b) ++ take (l - c) (drop (s - f) r)
  between-step b r s l f c e g =
      let size : length (drop f b) ≡ length b - f = length-drop f b in
      ap (take l) (drop-split b r s f e) ∙ take-split (drop f b) (drop (s - f) r) l c (omega arith)

  pub between-end : (b : List X) (s l f c : ℕ) → f ≡ min s (length b) → c ≡ min l (length b - f) → take l (drop s b) ≡ take c (drop f b)
  between-end b s l f c e g =
      ap (λ x. take l (drop s x)) (sym (append-nil b))
      ∙ between-step b [] s l f c e g
      ∙ ap (λ x. take c (drop f b) ++ take (l - c) x) (drop_all (s - f) [] (omega arith))
      ∙ ap (λ x. take c (drop f b) ++ x) (take_all (l - c) [] (omega arith))
      ∙ append-nil (take c (drop f b))

  -- the points from a chunk on, and those of the chunks after it
  joined-from-suc : (cs : List (List X)) (t : List X) (k : ℕ) (c : List X) → k < length cs → c ≡ get_or cs k c → joined (drop k cs) t ≡ c ++ joined (drop (suc k) cs) t
  joined-from-suc [] t k c within e = absurd (omega arith)
  joined-from-suc (b ∷ cs) t zero c within e = ap (λ l. l ++ joined cs t) (sym e)
  joined-from-suc (b ∷ cs) t (suc k) c within e = joined-from-suc cs t k c (omega arith) e

  pub joined-from : (cs : List (List X)) (t : List X) (k : ℕ) (c : List X) → k < length cs → c ≡ get_or cs k c → joined (drop k cs) t ≡ c ++ joined (drop (k + 1) cs) t
  joined-from cs t k c within e = let next : suc k ≡ k + 1 = omega arith in joined-from-suc cs t k c within e ∙ ap (λ n. c ++ joined (drop n cs) t) next

  -- a first part after what is there already
  pub between-next : (front b r whole : List X) (cs : List (List X)) (t : List X) (k s l f c : ℕ) → k < length cs → b ≡ get_or cs k b → f ≡ min s (length b) → c ≡ min l (length b - f)
      → front ++ take l (drop s (joined (drop k cs) t)) ≡ whole → r ≡ joined (drop (k + 1) cs) t → (front ++ take c (drop f b)) ++ take (l - c) (drop (s - f) r) ≡ whole
  between-next front b r whole cs t k s l f c within at e g held rest =
      append_assoc front (take c (drop f b)) (take (l - c) (drop (s - f) r))
      ∙ ap (λ x. front ++ x) (sym (between-step b r s l f c e g))
      ∙ ap (λ x. front ++ take l (drop s (b ++ x))) rest
      ∙ ap (λ x. front ++ take l (drop s x)) (sym (joined-from cs t k b within at))
      ∙ held

  -- the last part
  pub between-last : (front whole : List X) (cs : List (List X)) (t : List X) (k s l f c : ℕ) → length cs ≤ k → f ≡ min s (length t) → c ≡ min l (length t - f)
      → front ++ take l (drop s (joined (drop k cs) t)) ≡ whole → front ++ take c (drop f t) ≡ whole
  between-last front whole cs t k s l f c past e g held =
      ap (λ x. front ++ x) (sym (between-end t s l f c e g))
      ∙ ap (λ x. front ++ take l (drop s (joined x t))) (sym (drop_all k cs past))
      ∙ held
