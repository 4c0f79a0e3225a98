-- A table that passes the test is one; for the crates above too.
use Rattle.std.proofs.Common.{◌≡◌, ℕ, zero, suc, ◌+◌, ◌<◌, true, false, List, [], ◌∷◌, ltb, Some, None, subst, arith, inl, inr}
use Rattle.std.specs.Prelude.{slice_get}
use Rattle.std.specs.List.{AllByRecursion}
use Rattle.std.proofs.lemmas.Bool.{ltb-true}
use Rattle.avro_bin.specs.declared.schema.Node.{Node}
use Rattle.avro_bin.specs.Schema.{children, IsTable, all_below, is_table}
use Rattle.avro_bin.proofs.GroupLemmas.{chosen}

below_is : (id : ℕ) (cs : List ℕ) → all_below id cs ≡ true → AllByRecursion (λ c. c < id) cs
below_is id [] h = tt
below_is id (c ∷ cs) h = elim (chosen (ltb c id) (all_below id cs) false true h) [ inl e ↦ (ltb-true c id e.0, below_is id cs e.1) | inr e ↦ absurd (let no : false ≡ true = e.1 in cc) ]

abbrev Below : ℕ → Node → Type 0
Below id node = AllByRecursion (λ c. c < id) (children node)

at_place : (start : ℕ) (n : Node) (nodes : List Node) (i : ℕ) (node : Node) → slice_get (n ∷ nodes) i ≡ Some node → Below start n
    → ((j : ℕ) (m : Node) → slice_get nodes j ≡ Some m → Below (suc start + j) m) → Below (start + i) node
at_place start n nodes zero node e all rest =
    let same : n ≡ node = cc in
    let z : start ≡ start + 0 = omega arith in
    subst (Below (start + 0)) same (subst (λ (i : ℕ). Below i n) z all)
at_place start n nodes (suc j) node e all rest = let z : suc start + j ≡ start + suc j = omega arith in subst (λ (i : ℕ). Below i node) z (rest j node e)

from : (start : ℕ) (nodes : List Node) → is_table start nodes ≡ true → (i : ℕ) (node : Node) → slice_get nodes i ≡ Some node → Below (start + i) node
from start [] h i node e = absurd (let no : None ≡ Some node = e in cc)
from start (n ∷ nodes) h i node e =
    elim (chosen (all_below start (children n)) (is_table (suc start) nodes) false true h) [
      | inr b ↦ absurd (let no : false ≡ true = b.1 in cc)
      | inl b ↦ at_place start n nodes i node e (below_is start (children n) b.0) (λ j m g. from (suc start) nodes b.1 j m g)
    ]

pub table_is : (nodes : List Node) → is_table 0 nodes ≡ true → IsTable nodes
table_is nodes h id node e = let z : 0 + id ≡ id = omega arith in subst (λ (i : ℕ). Below i node) z (from 0 nodes h id node e)
