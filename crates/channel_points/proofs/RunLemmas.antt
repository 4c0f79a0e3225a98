-- Points that are handed out in chunks.
use Rattle.std.proofs.Common.{refl, ℕ, ◌≡◌, ◌<◌, ◌≤◌, ◌+◌, ◌-◌, ◌*◌, List, [], ◌∷◌, ◌++◌, length, take, drop, get_or, ap, sym, ◌∙◌, arith, length-append, length-drop}
use Rattle.std.proofs.lemmas.List.{drop-append-le, drop_all, take-append-le, take_all}
use Rattle.etp_values.specs.declared.point.Point.{Point}
use Rattle.channel_points.specs.Blocks.{joined}
use Rattle.channel_points.specs.Chunks.{AreChunks}
use Rattle.channel_points.specs.Fronts.{IsFront}
use Rattle.channel_points.proofs.BetweenLemmas.{drop-split, joined-from}

-- ---- how many chunks there are

chunks-counted : (c : List Point) (cs : List (List Point)) → AreChunks (c ∷ cs) → 1025 * length (c ∷ cs) + length c ≤ 2 * length (joined (c ∷ cs) []) + 1025
chunks-counted c [] h =
    let size : length (c ++ []) ≡ length c + 0 = length-append c [] in
    omega (arith, size)
chunks-counted c (d ∷ ds) h =
    let rest : 1025 * length (d ∷ ds) + length d ≤ 2 * length (joined (d ∷ ds) []) + 1025 = chunks-counted d ds h.2 in
    let many : 1024 < length c + length d = h.1 in
    let all : length (joined (c ∷ d ∷ ds) []) ≡ length c + length (joined (d ∷ ds) []) = length-append c (joined (d ∷ ds) []) in
    omega (arith, rest, many, all)

-- any two neighbours have more than 1,024 points together, so there are at most some twice as many chunks as there have to be
pub few_chunks : (cs : List (List Point)) → AreChunks cs → 1025 * length cs ≤ 2 * length (joined cs []) + 2050
few_chunks [] h = omega arith
few_chunks (c ∷ cs) h = let all = chunks-counted c cs h in omega (arith, all)

-- ---- the rest of a chunk

module _ {X : Type 0} where
  front-size : (xs ys : List X) → take (length xs) (xs ++ ys) ≡ xs
  front-size xs ys = take-append-le (length xs) xs ys (omega arith) ∙ take_all (length xs) xs (omega arith)

  pub front-here : (cs : List (List X)) (k : ℕ) (b whole items : List X) (skip place : ℕ) → k < length cs → b ≡ get_or cs k b → drop skip (joined (drop k cs) []) ≡ drop place whole
      → skip < length b → items ≡ drop skip b → IsFront whole place items
  front-here cs k b whole items skip place within at led here e =
      let rest = joined (drop (k + 1) cs) [] in
      let count : length items ≡ length b - skip = ap length e ∙ length-drop skip b in
      let apart : drop skip b ++ rest ≡ drop place whole = sym (drop-append-le skip b rest (omega arith)) ∙ ap (drop skip) (sym (joined-from cs [] k b within at)) ∙ led in
      record {
        some = λ h. omega (arith, count, here);
        same = e ∙ sym (front-size (drop skip b) rest) ∙ (λ j. take (length (sym e j)) (apart j));
      }

  pub front-next : (cs : List (List X)) (k : ℕ) (b whole : List X) (skip place n : ℕ) → k < length cs → b ≡ get_or cs k b → drop skip (joined (drop k cs) []) ≡ drop place whole
      → length b ≤ skip → n ≡ skip - length b → drop n (joined (drop (k + 1) cs) []) ≡ drop place whole
  front-next cs k b whole skip place n within at led past e =
      let rest = joined (drop (k + 1) cs) [] in
      ap (λ m. drop m rest) e
      ∙ sym (drop-split b rest skip (length b) (omega arith) ∙ ap (λ l. l ++ drop (skip - length b) rest) (drop_all (length b) b (omega arith)))
      ∙ ap (drop skip) (sym (joined-from cs [] k b within at))
      ∙ led

  pub front-end : (cs : List (List X)) (k : ℕ) (whole : List X) (skip place : ℕ) → length cs ≤ k → drop skip (joined (drop k cs) []) ≡ drop place whole → IsFront whole place []
  front-end cs k whole skip place past led =
      let none : drop place whole ≡ [] = sym led ∙ ap (λ l. drop skip (joined l [])) (drop_all k cs past) ∙ drop_all skip [] (omega arith) in
      let size : length whole - place ≡ 0 = sym (length-drop place whole) ∙ ap length none in
      record { some = λ h. absurd (omega (arith, size, h)); same = refl }
