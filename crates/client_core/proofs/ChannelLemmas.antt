-- The result of writing to each channel of a list.
use Rattle.std.specs.Prelude.{◌≡◌, ℕ, ◌<◌, ◌≤◌, ◌+◌, List, ◌++◌, drop, length, map, slice_set, take}
use Rattle.std.proofs.Common.{ap, append-nil, arith, get_or, ◌∙◌}
use Rattle.std.proofs.lemmas.List.{drop_all, length-map, take_all}
use Rattle.std.proofs.lemmas.List.Edits.{map_over_more}
use Rattle.client_core.specs.declared.state.Channel.{Channel}

-- the first `n` channels are written, the others are not
abbrev pub first_mapped : (Channel → Channel) → ℕ → List Channel → List Channel
first_mapped f n cs = map f (take n cs) ++ drop n cs

pub mapped_more : (f : Channel → Channel) (cs now : List Channel) (n : ℕ) (x old new : Channel) → n < length cs → now ≡ first_mapped f n cs → x ≡ get_or now n x → old ≡ x → new ≡ f old
    → slice_set now n new ≡ first_mapped f (n + 1) cs
mapped_more f cs now n x old new within so_far at same is =
    ap (λ y. slice_set now n y) (is ∙ ap f same) ∙ map_over_more f cs now n x within so_far at

pub mapped_all : (f : Channel → Channel) (cs now : List Channel) (n : ℕ) → length cs ≤ n → now ≡ first_mapped f n cs → now ≡ map f cs
mapped_all f cs now n end so_far =
    so_far ∙ (λ j. map f (take_all n cs end j) ++ drop_all n cs end j) ∙ append-nil (map f cs)

-- a list that was written as a whole, in place of one as long
pub whole_part : (f : Channel → Channel) (n : ℕ) (new items : List Channel) → new ≡ map f items → n ≡ length items → take n (new ++ drop (length new) items) ≡ map f items
whole_part f n new items is size =
    let same : length new ≡ length items = ap length is ∙ length-map items f in
    (λ j. take n (new ++ drop_all (length new) items (omega (arith, same)) j)) ∙ ap (take n) (append-nil new) ∙ take_all n new (omega (arith, same, size)) ∙ is
