-- The next item of a link in memory is taken.
use Rattle.std.proofs.Common.{◌≡◌, ℕ, zero, suc, ◌+◌, List, [], ◌∷◌, ◌++◌, take, drop, Some, refl, ap, sym, ◌∙◌, add-one}
use Rattle.std.specs.List.{slice_get}
use Rattle.std.specs.declared.option.Option.{Option}
use Rattle.etp_values.proofs.ListLemmas.{drop_item}
use Rattle.etp_outside.specs.Talk.{Talk, Takes}
use Rattle.etp_outside.specs.declared.link.Address.{Address}
use Rattle.etp_outside.specs.declared.link.Item.{Item}

take_item : {X : Type 0} (xs : List X) (i : ℕ) (x : X) → slice_get xs i ≡ Some x → take (suc i) xs ≡ take i xs ++ x ∷ []
take_item [] i x at = absurd (cc at)
take_item (y ∷ ys) zero x at = cc at
take_item (y ∷ ys) (suc i) x at = ap (λ l. y ∷ l) (take_item ys i x at)

-- what a link in memory reveals at an index of its items
abbrev pub talk_at : List Item → ℕ → List (List ℕ) → Option Address → Talk
talk_at items at sent to = record { coming = drop at items; taken = take at items; sent = sent; to = to }

pub takes_item : (items : List Item) (at : ℕ) (sent : List (List ℕ)) (to : Option Address) (item : Item) → slice_get items at ≡ Some item
    → Takes item (talk_at items at sent to) (talk_at items (at + 1) sent to)
takes_item items at sent to item here = record {
  coming = drop_item items at item here ∙ ap (λ n. item ∷ drop n items) (sym (add-one at));
  taken = ap (λ n. take n items) (add-one at) ∙ take_item items at item here;
  sent = refl;
  to = refl;
}
