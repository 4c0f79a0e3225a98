-- What each step makes of a part.
use Rattle.std.proofs.Common.{◌≡◌, ℕ, suc, ◌+◌, ◌-◌, ◌<◌, ◌≤◌, inl, inr, true, List, [], ◌∷◌, ◌++◌, length, Option, refl, sym, ap, subst, ◌∙◌, arith, append-nil}
use Rattle.std.proofs.lemmas.List.{length-append}
use Rattle.avro_bin.specs.declared.fault.Fault.{Fault}
use Rattle.avro_bin.specs.declared.schema.Node.{Node}
use Rattle.avro_bin.specs.Schema.{Schema, schema}
use Rattle.avro_bin.specs.Reading.{Fails, value_at}
use Rattle.avro_bin.specs.Along.{pass_at}
use Rattle.avro_bin.specs.Laws.{IsBytes}
use Rattle.avro_bin.proofs.StepLemmas.{Fails-same}
use Rattle.avro_pieces.specs.declared.level.Block.{Block}
use Rattle.avro_pieces.specs.declared.level.Level.TheVariants as l
use Rattle.avro_pieces.specs.Levels.{fills, rest_of, level_at, Begins, IsHead, NextFails}
use Rattle.avro_pieces.specs.Passing.{GoesOn}
use Rattle.avro_pieces.proofs.LongerLemmas.{pass_longer}
use Rattle.avro_pieces.proofs.BlockLemmas.{Leaves}
use Rattle.avro_pieces.proofs.RestLemmas.{fills_more, rest_next, rest_head, rest_unfilled, head_fails, head_over, head_goes, head_leaves}

pub stays : (bytes : List ℕ) → IsBytes bytes → (text : List ℕ) × (bytes ≡ text ++ bytes)
stays bytes fits = ([], refl)

pub pass_leaves : (s : Schema) → Leaves (pass_at (value_at s))
pass_leaves s n bytes m rest fits e =
    let l = pass_longer bytes rest [] (rw append-nil fits) s n m e in
    (l.text, l.split)

pub fills_all : (all : ℕ) (bytes more : List ℕ) (block : Option Block) → Begins all block → fills all (length bytes) block ≡ true → fills (all + length more) (length (bytes ++ more)) block ≡ true
fills_all all bytes more block begins h = rw (length-append bytes more) (sym (fills_more all (length bytes) (length more) block begins) ∙ h)

-- ---- arrays

pub item_turn : (nodes : List Node) (all child left : ℕ) (block : Option Block) (n : ℕ) (bytes : List ℕ) → 0 < left → GoesOn nodes all (l.Items child left block) n bytes (l.Items child (left - 1) block ∷ l.Node child ∷ []) n bytes
item_turn nodes all child left block n bytes some = record {
  front = stays bytes;
  same = λ more fits.
      let is : left ≡ suc (left - 1) = omega (arith, some) in
      ap (λ (k : ℕ). level_at nodes (all + length more) (l.Items child k block) n (bytes ++ more)) is ∙ rest_next (pass_at (value_at (schema nodes child))) (all + length more) block (left - 1) n (bytes ++ more);
}

pub items_over : (nodes : List Node) (all child left : ℕ) (block : Option Block) (n : ℕ) (bytes : List ℕ) (k : ℕ) (next : Option Block) (rest : List ℕ) → (0 < left → ⊥) → Begins all block → fills all (length bytes) block ≡ true
    → IsHead all bytes k next rest → k ≡ 0 → GoesOn nodes all (l.Items child left block) n bytes [] n rest
items_over nodes all child left block n bytes k next rest none begins full head zero_is = record {
  front = head_leaves all bytes k next rest head;
  same = λ more fits.
      let is : left ≡ 0 = omega (arith, none) in
      let item = pass_at (value_at (schema nodes child)) in
      ap (λ (j : ℕ). level_at nodes (all + length more) (l.Items child j block) n (bytes ++ more)) is
      ∙ rest_head item (all + length more) block n (bytes ++ more) (fills_all all bytes more block begins full)
      ∙ head_over item (pass_leaves (schema nodes child)) all bytes more fits next rest n (subst (λ (j : ℕ). IsHead all bytes j next rest) zero_is head);
}

pub items_into : (nodes : List Node) (all child left : ℕ) (block : Option Block) (n : ℕ) (bytes : List ℕ) (k : ℕ) (next : Option Block) (rest : List ℕ) → (0 < left → ⊥) → Begins all block → length bytes ≤ all → fills all (length bytes) block ≡ true
    → IsHead all bytes k next rest → (k ≡ 0 → ⊥) → GoesOn nodes all (l.Items child left block) n bytes (l.Items child k next ∷ []) n rest
items_into nodes all child left block n bytes k next rest none begins within full head some = record {
  front = head_leaves all bytes k next rest head;
  same = λ more fits.
      let is : left ≡ 0 = omega (arith, none) in
      let one : k ≡ suc (k - 1) = omega (arith, some) in
      let item = pass_at (value_at (schema nodes child)) in
      ap (λ (j : ℕ). level_at nodes (all + length more) (l.Items child j block) n (bytes ++ more)) is
      ∙ rest_head item (all + length more) block n (bytes ++ more) (fills_all all bytes more block begins full)
      ∙ head_goes item (pass_leaves (schema nodes child)) all bytes more fits within (k - 1) next rest n (subst (λ (j : ℕ). IsHead all bytes j next rest) one head)
      ∙ ap (λ (j : ℕ). rest_of item (all + length more) next j n (rest ++ more)) (sym one);
}

pub items_fail : (nodes : List Node) (all child left : ℕ) (block : Option Block) (n : ℕ) (bytes : List ℕ) (e : Fault) → (0 < left → ⊥) → NextFails all bytes block e → Fails e (level_at nodes all (l.Items child left block) n bytes)
items_fail nodes all child left block n bytes e none (inl h) =
    let is : left ≡ 0 = omega (arith, none) in
    rw (is, h.1) (rest_unfilled (pass_at (value_at (schema nodes child))) all block n bytes h.0)
items_fail nodes all child left block n bytes e none (inr h) =
    let is : left ≡ 0 = omega (arith, none) in
    let item = pass_at (value_at (schema nodes child)) in
    rw is (Fails-same e _ _ (head_fails item e n bytes h.1) (sym (rest_head item all block n bytes h.0)))
