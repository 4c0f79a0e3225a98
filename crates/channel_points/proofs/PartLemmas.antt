-- A part of a run of points.
use Rattle.std.proofs.Common.{ℕ, ◌≡◌, ◌≤◌, ◌+◌, ◌-◌, List, length, take, drop, ap, sym, ◌∙◌, arith, length-drop}
use Rattle.std.specs.Prelude.{min, slice_range}
use Rattle.std.proofs.lemmas.List.{drop-drop, drop-take, length-take, take-take}

module _ {X : Type 0} where
  pub part-within : (xs : List X) (first end start count : ℕ) (ys : List X) → first ≤ end → end ≤ length xs → slice_range xs first end ≡ ys → start + count ≤ length ys → first + start + count ≤ end
  part-within xs first end start count ys order within e fits =
      let size : length ys ≡ min (end - first) (length (drop first xs)) = ap length (sym e) ∙ length-take (end - first) (drop first xs) in
      let rest : length (drop first xs) ≡ length xs - first = length-drop first xs in
      omega arith

  pub part-is : (xs : List X) (first end start count : ℕ) → first + start + count ≤ end → slice_range xs (first + start) (first + start + count) ≡ take count (drop start (slice_range xs first end))
  part-is xs first end start count within =
      let size : first + start + count - (first + start) ≡ count = omega arith in
      let sum : start + (end - first - start) ≡ end - first = omega arith in
      ap (λ n. take n (drop (first + start) xs)) size
      ∙ ap (take count) (sym (drop-drop start first xs))
      ∙ sym (take-take count (end - first - start) (drop start (drop first xs)) (omega arith))
      ∙ ap (take count) (sym (drop-take start (end - first - start) (drop first xs)) ∙ ap (λ n. drop start (take n (drop first xs))) sum)
