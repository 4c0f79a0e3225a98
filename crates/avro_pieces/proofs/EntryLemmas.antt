-- What a step makes of a map.
use Rattle.std.proofs.Common.{◌≡◌, ℕ, suc, ◌+◌, ◌-◌, ◌<◌, ◌≤◌, ◌⊎◌, inl, inr, true, false, cond, List, [], ◌∷◌, ◌++◌, Ok, Err, length, Option, refl, sym, ap, subst, ◌∙◌, arith}
use Rattle.std.specs.Ordering.{nat_cmp}
use Rattle.std.specs.Cmp.Lexicographic.{slice_cmp}
use Rattle.std.specs.BTreeMap.{insert_entry}
use Rattle.avro_bin.specs.declared.fault.Why.TheVariants as why
use Rattle.avro_bin.specs.declared.fault.Fault.{Fault}
use Rattle.avro_bin.specs.declared.schema.Node.{Node}
use Rattle.avro_bin.specs.Schema.{Schema, schema}
use Rattle.avro_bin.specs.Reading.{Read, Got, ◌>>=◌, Fails, has, text_at, value_at}
use Rattle.avro_bin.specs.Along.{along, seen, pass_at, put_at, mark_at}
use Rattle.avro_bin.specs.Laws.{IsBytes}
use Rattle.avro_bin.proofs.GroupLemmas.{chosen, done}
use Rattle.avro_bin.proofs.FailedLemmas.{bad}
use Rattle.avro_bin.proofs.FoundLemmas.{text_found, IsBytes-append, ok_two}
use Rattle.avro_bin.proofs.StepLemmas.{bind_ok, Fails-then, Fails-same}
use Rattle.avro_bin.proofs.PassingLemmas.{Fails-along, put_no_key, put_double}
use Rattle.avro_pieces.specs.declared.level.Entries.{Entries}
use Rattle.avro_pieces.specs.declared.level.Level.TheVariants as l
use Rattle.avro_pieces.specs.declared.level.Block.{Block}
use Rattle.avro_pieces.specs.Levels.{fills, rest_of, level_at, Begins, IsHead, NextFails}
use Rattle.avro_pieces.specs.Passing.{GoesOn}
use Rattle.avro_pieces.proofs.LongerLemmas.{text_longer}
use Rattle.avro_pieces.proofs.BlockLemmas.{Leaves, both}
use Rattle.avro_pieces.proofs.RestLemmas.{rest_next, rest_head, rest_unfilled, head_fails, head_over, head_goes, head_leaves}
use Rattle.avro_pieces.proofs.TurnLemmas.{pass_leaves, fills_all}

abbrev Names : Type 0
Names = List (List ℕ × Unit {0})

abbrev put : Schema → Names × ℕ → List ℕ → Read (Names × ℕ)
put s = put_at (mark_at (value_at s))

-- a value that is not kept, under its name
marked : (es : Names) (k : List ℕ) (r : Read Got) → Read (Names × ℕ)
marked es k r = along (λ x. (insert_entry (slice_cmp nat_cmp) es k x.0, x.1)) (along {B = Unit {0} × ℕ} (seen (λ v. tt)) r)

-- an entry leaves the end of the bytes: its name, and its value
marked_ok : (es : Names) (k : List ℕ) (r : Read Got) (x : (Names × ℕ) × List ℕ) → along (λ x. (insert_entry (slice_cmp nat_cmp) es k x.0, x.1)) (along {B = Unit {0} × ℕ} (seen (λ v. tt)) r) ≡ Ok x → (m : ℕ) × (along (λ y. y.1) r ≡ Ok (m, x.1))
marked_ok es k (Ok y) x e = let p = ok_two {A = Names × ℕ} _ x.0 y.1 x.1 e in (y.0.1, ap (λ (b : List ℕ). Ok (y.0.1, b)) p.1)
marked_ok es k (Err f) x e = absurd cc

marked_then : (es fs : Names) (k : List ℕ) → fs ≡ insert_entry (slice_cmp nat_cmp) es k tt → (r : Read Got) (go : Names × ℕ → List ℕ → Read (Names × ℕ))
    → along (λ t. t.1) (along (λ x. (insert_entry (slice_cmp nat_cmp) es k x.0, x.1)) (along {B = Unit {0} × ℕ} (seen (λ v. tt)) r) >>= λ x. go x.0 x.1) ≡ (along (λ y. y.1) r >>= λ x. along (λ t. t.1) (go (fs, x.0) x.1))
marked_then es fs k is (Ok y) go = ap (λ (gs : Names). along (λ t. t.1) (go (gs, y.0.1) y.1)) (sym is)
marked_then es fs k is (Err f) go = refl

pub put_leaves : (s : Schema) → Leaves (put_at (mark_at (value_at s)))
unfolding put_at mark_at pass_at
put_leaves s st bytes t rest fits e =
    let x = bind_ok (text_at bytes) (λ k. cond (has k.0 st.0) (Err (why.DoubleKey, length bytes)) (along (λ x. (insert_entry (slice_cmp nat_cmp) st.0 k.0 x.0, x.1)) (mark_at (value_at s) st.1 k.1))) (t, rest) e in
    let f = text_found bytes x.0.0 x.0.1 fits x.1 in
    behind x.0.0 x.0.1 f.text f.parts (IsBytes-append f.text x.0.1 (subst IsBytes f.parts fits))
    (chosen {A = Read (Names × ℕ)} (has x.0.0 st.0) (Err (why.DoubleKey, length bytes)) (along (λ y. (insert_entry (slice_cmp nat_cmp) st.0 x.0.0 y.0, y.1)) (mark_at (value_at s) st.1 x.0.1)) (done (t, rest)) x.2)
  where
    behind : (k after text : List ℕ) → bytes ≡ text ++ after → IsBytes after
        → ((has k st.0 ≡ true) × (bad {A = Names × ℕ} (why.DoubleKey, length bytes) ≡ done (t, rest))) ⊎ ((has k st.0 ≡ false) × (along (λ y. (insert_entry (slice_cmp nat_cmp) st.0 k y.0, y.1)) (mark_at (value_at s) st.1 after) ≡ done (t, rest)))
        → (front : List ℕ) × (bytes ≡ front ++ rest)
    behind k after text parts fine (inl h) = absurd cc
    behind k after text parts fine (inr h) =
        let m = marked_ok st.0 k (value_at s st.1 after) (t, rest) h.1 in
        let v = pass_leaves s st.1 after m.0 rest fine m.1 in
        both text after rest bytes v.0 parts v.1

pub entry_turn : (nodes : List Node) (all : ℕ) (e f : Entries) (n : ℕ) (bytes k rest : List ℕ) → 0 < e.left → text_at bytes ≡ Ok (k, rest) → has k e.names.entries ≡ false
    → f.child ≡ e.child → f.left ≡ e.left - 1 → f.block ≡ e.block → f.names.entries ≡ insert_entry (slice_cmp nat_cmp) e.names.entries k tt
    → GoesOn nodes all (l.Entries e) n bytes (l.Entries f ∷ l.Node e.child ∷ []) n rest
unfolding put_at mark_at pass_at
entry_turn nodes all e f n bytes k rest some name fresh child left block names = record {
  front = λ fits. let t = text_found bytes k rest fits name in (t.text, t.parts);
  same = λ more fits.
      let s = schema nodes e.child in
      let is : e.left ≡ suc (e.left - 1) = omega (arith, some) in
      let longer = text_longer bytes rest more fits k name in
      let one : rest_of (put s) (all + length more) e.block e.left (e.names.entries, n) (bytes ++ more) ≡ (put s (e.names.entries, n) (bytes ++ more) >>= λ x. rest_of (put s) (all + length more) e.block (e.left - 1) x.0 x.1) =
      ap (λ (j : ℕ). rest_of (put s) (all + length more) e.block j (e.names.entries, n) (bytes ++ more)) is ∙ rest_next (put s) (all + length more) e.block (e.left - 1) (e.names.entries, n) (bytes ++ more) in
      let two : put s (e.names.entries, n) (bytes ++ more) ≡ along (λ x. (insert_entry (slice_cmp nat_cmp) e.names.entries k x.0, x.1)) (mark_at (value_at s) n (rest ++ more)) = rw (longer.again, fresh) refl in
      ap (along (λ t. t.1)) (one ∙ ap (λ (r : Read (Names × ℕ)). r >>= λ x. rest_of (put s) (all + length more) e.block (e.left - 1) x.0 x.1) two)
      ∙ marked_then e.names.entries f.names.entries k names (value_at s n (rest ++ more)) (λ x b. rest_of (put s) (all + length more) e.block (e.left - 1) x b)
      ∙ rw (child, left, block) refl;
}

pub entry_fails : (nodes : List Node) (all : ℕ) (e : Entries) (n : ℕ) (bytes : List ℕ) (w : Fault) → 0 < e.left → Fails w (text_at bytes) → Fails w (level_at nodes all (l.Entries e) n bytes)
entry_fails nodes all e n bytes w some h =
    let s = schema nodes e.child in
    let is : e.left ≡ suc (e.left - 1) = omega (arith, some) in
    let r : Read (Names × ℕ) = put s (e.names.entries, n) bytes >>= λ x. rest_of (put s) all e.block (e.left - 1) x.0 x.1 in
    let one : rest_of (put s) all e.block e.left (e.names.entries, n) bytes ≡ r = ap (λ (j : ℕ). rest_of (put s) all e.block j (e.names.entries, n) bytes) is ∙ rest_next (put s) all e.block (e.left - 1) (e.names.entries, n) bytes in
    let f = Fails-then w (put s (e.names.entries, n) bytes) (λ x. rest_of (put s) all e.block (e.left - 1) x.0 x.1) (put_no_key (mark_at (value_at s)) e.names.entries n bytes w h) in
    Fails-along w (λ t. t.1) _ (Fails-same w _ _ f (sym one))

pub entry_double : (nodes : List Node) (all : ℕ) (e : Entries) (n : ℕ) (bytes k rest : List ℕ) → 0 < e.left → text_at bytes ≡ Ok (k, rest) → has k e.names.entries ≡ true → level_at nodes all (l.Entries e) n bytes ≡ Err (why.DoubleKey, length bytes)
entry_double nodes all e n bytes k rest some name there =
    let s = schema nodes e.child in
    let is : e.left ≡ suc (e.left - 1) = omega (arith, some) in
    let one = ap (λ (j : ℕ). rest_of (put s) all e.block j (e.names.entries, n) bytes) is ∙ rest_next (put s) all e.block (e.left - 1) (e.names.entries, n) bytes in
    ap (along (λ t. t.1)) (one ∙ ap (λ (r : Read (Names × ℕ)). r >>= λ x. rest_of (put s) all e.block (e.left - 1) x.0 x.1) (put_double (mark_at (value_at s)) e.names.entries n bytes k rest name there))

pub entries_fail : (nodes : List Node) (all : ℕ) (e : Entries) (n : ℕ) (bytes : List ℕ) (w : Fault) → e.left ≤ 0 → NextFails all bytes e.block w → Fails w (level_at nodes all (l.Entries e) n bytes)
entries_fail nodes all e n bytes w none (inl h) =
    let is : e.left ≡ 0 = omega (arith, none) in
    rw (is, h.1) (ap (along (λ t. t.1)) (rest_unfilled (put (schema nodes e.child)) all e.block (e.names.entries, n) bytes h.0))
entries_fail nodes all e n bytes w none (inr h) =
    let is : e.left ≡ 0 = omega (arith, none) in
    let item = put (schema nodes e.child) in
    rw is (Fails-along w (λ t. t.1) _ (Fails-same w _ _ (head_fails item w (e.names.entries, n) bytes h.1) (sym (rest_head item all e.block (e.names.entries, n) bytes h.0))))

pub entries_over : (nodes : List Node) (all : ℕ) (e : Entries) (n : ℕ) (bytes : List ℕ) (k : ℕ) (next : Option Block) (rest : List ℕ) → e.left ≤ 0 → Begins all e.block → fills all (length bytes) e.block ≡ true
    → IsHead all bytes k next rest → k ≡ 0 → GoesOn nodes all (l.Entries e) n bytes [] n rest
entries_over nodes all e n bytes k next rest none begins full head zero_is = record {
  front = head_leaves all bytes k next rest head;
  same = λ more fits.
      let is : e.left ≡ 0 = omega (arith, none) in
      let s = schema nodes e.child in
      ap (along (λ t. t.1)) (
      ap (λ (j : ℕ). rest_of (put s) (all + length more) e.block j (e.names.entries, n) (bytes ++ more)) is
      ∙ rest_head (put s) (all + length more) e.block (e.names.entries, n) (bytes ++ more) (fills_all all bytes more e.block begins full)
      ∙ head_over (put s) (put_leaves s) all bytes more fits next rest (e.names.entries, n) (subst (λ (j : ℕ). IsHead all bytes j next rest) zero_is head)
      );
}

pub entries_into : (nodes : List Node) (all : ℕ) (e f : Entries) (n : ℕ) (bytes rest : List ℕ) → e.left ≤ 0 → Begins all e.block → length bytes ≤ all → fills all (length bytes) e.block ≡ true
    → IsHead all bytes f.left f.block rest → (f.left ≡ 0 → ⊥) → f.child ≡ e.child → f.names.entries ≡ e.names.entries → GoesOn nodes all (l.Entries e) n bytes (l.Entries f ∷ []) n rest
entries_into nodes all e f n bytes rest none begins within full head some child names = record {
  front = head_leaves all bytes f.left f.block rest head;
  same = λ more fits.
      let is : e.left ≡ 0 = omega (arith, none) in
      let one : f.left ≡ suc (f.left - 1) = omega (arith, some) in
      let s = schema nodes e.child in
      ap (along (λ t. t.1)) (
      ap (λ (j : ℕ). rest_of (put s) (all + length more) e.block j (e.names.entries, n) (bytes ++ more)) is
      ∙ rest_head (put s) (all + length more) e.block (e.names.entries, n) (bytes ++ more) (fills_all all bytes more e.block begins full)
      ∙ head_goes (put s) (put_leaves s) all bytes more fits within (f.left - 1) f.block rest (e.names.entries, n) (subst (λ (j : ℕ). IsHead all bytes j f.block rest) one head)
      ∙ ap (λ (j : ℕ). rest_of (put s) (all + length more) f.block j (e.names.entries, n) (rest ++ more)) (sym one)
      )
      ∙ rw (child, names) refl;
}
