-- `Named` as a type that may hold the type that holds it, by its values.
use Rattle.std.specs.Prelude.{ℕ}
use mathlib.Core.Path.{◌≡◌, refl, sym, subst}
use mathlib.Core.List.{List, [], ◌∷◌}
use mathlib.Core.Former.{Former, this, list, via, children}
use denote.RattleType.{RattleType}
use denote.HoleLaws.{Alike}
use denote.HolePlaces.{Recodes, struct_places, laid, stays}
use denote.Hole.Carrier.{listed}
use denote.Hole.Fix.{over}
use denote.Param.Weighed.{Weighed, most}
use denote.Model.Placed.{view_places}
use denote.Struct.Tuple.{Tuple, tuple_type}
use Rattle.std.specs.Ordering.{nat_cmp}
use Rattle.std.specs.Cmp.Lexicographic.{slice_cmp}
use Rattle.std.specs.List.Sorted.{IsStrictlySortedBy, IsStrictlySortedBy-prop}
use Rattle.std.specs.Map.{values_of}
use Rattle.etp_values.specs.Entries.{entry, on_value, entries_puts, values_listed, keys_on_values, entries_recoded}
use Rattle.std.specs.formers.vec.Vec as vec
use Rattle.std.specs.declared.alloc.Global.{Global}
use Rattle.std.specs.contracts.alloc.Global as heap
use Rattle.std.specs.contracts.impls.GlobalAllocator.TheImpl.{ghosts}
use Rattle.etp_values.specs.contracts.text.Text as text
use Rattle.etp_values.specs.declared.named.Named.TheInside.{Inside}
use Rattle.etp_values.specs.declared.named.Named.TheView.{view, invariant}
use Rattle.etp_values.specs.contracts.named.Named as C
use Rattle.etp_values.specs.contracts.named.Named.TheInside as I

abbrev pub the_former : Former {0} → Former {0}
the_former g = list (entry g (List ℕ))

abbrev pub the_weighed : {g : Former {0}} → Weighed g → Weighed (the_former g)
the_weighed w = record { weight = λ X μ d. most (w.weight X μ) (values_of d); puts = λ X μ d. entries_puts w (List ℕ) X μ d }

pub the_empty : List (List ℕ × ⊥)
the_empty = []

abbrev pub the_items : (X : Type 0) → List (List ℕ × X) → List X
the_items X d = values_of d

pub the_items_listed : (X : Type 0) (d : List (List ℕ × X)) → listed _ (children (the_former this) X d) ≡ the_items X d
the_items_listed X d = values_listed (List ℕ) X d

abbrev fields : Former {0}
fields = via (vec.the_former (entry this (List ℕ)) Global) Inside (λ X a. a.items) (λ X v. record { items = v }) (λ X a. refl) (λ X v. refl)

module _ (R S : RattleType) (h : R.Denot → S.Denot) where
  abbrev Sorted : List (List ℕ) → Type 0
  Sorted = IsStrictlySortedBy (slice_cmp nat_cmp)

  pair_places : Alike R S h → Alike (Tuple (text.the_row ∷ R ∷ [])) (Tuple (text.the_row ∷ S ∷ [])) (on_value h)
  pair_places a = struct_places (tuple_type (text.the_row ∷ R ∷ [])) (tuple_type (text.the_row ∷ S ∷ [])) ((λ n. n), (h, tt)) _ (λ d. refl) refl (stays text.the_row, (laid _ _ _ a, tt))

  pub the_places : Alike R S h → Alike (C.the_row R) (C.the_row S) ((the_former this).map R.Denot S.Denot h)
  the_places a = view_places fields (the_former this) view (λ X Y k u. refl) (λ X u. refl) R.Denot S.Denot h (C.the_row R).coded (C.the_row S).coded
      (invariant R.Denot) (invariant S.Denot) (λ u. IsStrictlySortedBy-prop _ _) (λ u. IsStrictlySortedBy-prop _ _)
      (λ u. subst Sorted (sym (keys_on_values h u.items.items))) (λ u. subst Sorted (keys_on_values h u.items.items))
      (over (I.the_row R)) (over (I.the_row S))
      (struct_places (I.the_type R) (I.the_type S) (vec.mapped (on_value h), tt) _ (λ d. refl) refl
      (laid _ _ _ (vec.the_places heap.the_row ghosts _ _ (on_value h) (pair_places a)), tt))

  pub the_codes_placed : Recodes R S h → Recodes (C.the_row R) (C.the_row S) ((the_former this).map R.Denot S.Denot h)
  the_codes_placed e d = entries_recoded text.the_row R S h e d
