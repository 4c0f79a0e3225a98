-- Steps into the innermost part, and what they make of all parts.
use Rattle.std.proofs.Common.{◌≡◌, ℕ, ◌+◌, ◌-◌, inr, List, [], ◌∷◌, ◌++◌, Ok, Err, length, refl, sym, ap, subst, ◌∙◌, arith, append-nil}
use Rattle.std.specs.List.{AllByRecursion}
use Rattle.avro_bin.specs.declared.fault.Why.{Why}
use Rattle.avro_bin.specs.declared.fault.Why.TheVariants as why
use Rattle.avro_bin.specs.declared.fault.Fault.{Fault}
use Rattle.avro_bin.specs.declared.fault.Fault.TheVariants as fault
use Rattle.avro_bin.specs.declared.refusal.Refusal.TheVariants as r
use Rattle.avro_bin.specs.declared.schema.Node.{Node}
use Rattle.avro_bin.specs.Refusing.{refusal}
use Rattle.avro_bin.specs.Schema.{schema}
use Rattle.avro_bin.specs.Reading.{Read, ◌>>=◌, value_at}
use Rattle.avro_bin.specs.Along.{pass_at}
use Rattle.avro_bin.specs.Laws.{IsBytes, IsNotShort, node_limit, read_value}
use Rattle.avro_bin.specs.Value.{Value}
use Rattle.avro_bin.proofs.SpannedLemmas.{spans_ok, spans_err}
use Rattle.avro_bin.proofs.FoundLemmas.{IsBytes-append}
use Rattle.avro_bin.proofs.AgainLemmas.{regroup}
use Rattle.avro_pieces.specs.declared.level.Level.{Level}
use Rattle.avro_pieces.specs.Levels.{level_at, levels_at}
use Rattle.avro_pieces.specs.Passing.{GoesOn, TurnFails}
use Rattle.avro_pieces.specs.Passage.{Continues, GoingFails, PassRefuses}
use Rattle.avro_pieces.proofs.BlockLemmas.{then_assoc, both}

then_ok : {A : Type 0} (x : Read A) → x ≡ (x >>= λ y. Ok (y.0, y.1))
then_ok (Ok y) = refl
then_ok (Err e) = refl

pub levels_front : (nodes : List Node) (all : ℕ) (front inner : List Level) (n : ℕ) (bytes : List ℕ) → levels_at nodes all (front ++ inner) n bytes ≡ (levels_at nodes all inner n bytes >>= λ x. levels_at nodes all front x.0 x.1)
levels_front nodes all [] inner n bytes = then_ok (levels_at nodes all inner n bytes)
levels_front nodes all (f ∷ front) inner n bytes =
    ap (λ (r : Read ℕ). r >>= λ x. level_at nodes all f x.0 x.1) (levels_front nodes all front inner n bytes)
    ∙ then_assoc (levels_at nodes all inner n bytes) (λ x. levels_at nodes all front x.0 x.1) (λ x. level_at nodes all f x.0 x.1)

pub all_front : {X : Type 0} (P : X → Type 0) (front inner : List X) → AllByRecursion P (front ++ inner) → AllByRecursion P front
all_front P [] inner all = tt
all_front P (x ∷ front) inner all = (all.0, all_front P front inner all.1)

pub all_both : {X : Type 0} (P : X → Type 0) (front inner : List X) → AllByRecursion P front → AllByRecursion P inner → AllByRecursion P (front ++ inner)
all_both P [] inner f i = i
all_both P (x ∷ front) inner f i = (f.0, all_both P front inner f.1 i)

module _ (nodes : List Node) (id : ℕ) (bytes : List ℕ) (fits : IsBytes bytes) (levels front : List Level) (level : Level) (is : levels ≡ front ++ level ∷ []) (allowed : ℕ) (rest : List ℕ)
    (tied : (text : List ℕ) × (bytes ≡ text ++ rest)) (on : Continues nodes id bytes levels allowed rest) where
  rest_fits : IsBytes rest
  rest_fits = IsBytes-append tied.0 rest (subst IsBytes tied.1 fits)

  pub tied_on : (parts : List Level) (m : ℕ) (after : List ℕ) → GoesOn nodes (length bytes) level allowed rest parts m after → (text : List ℕ) × (bytes ≡ text ++ after)
  tied_on parts m after g = let f = g.front rest_fits in both tied.0 rest after bytes f.0 tied.1 f.1

  pub goes_on : (parts : List Level) (m : ℕ) (after : List ℕ) → GoesOn nodes (length bytes) level allowed rest parts m after → Continues nodes id bytes (front ++ parts) m after
  goes_on parts m after g more fine =
      let all : ℕ = length bytes + length more in
      let fit : IsBytes (rest ++ more) = IsBytes-append tied.0 (rest ++ more) (subst IsBytes (regroup bytes tied.0 rest more tied.1) fine) in
      on more fine
      ∙ ap (λ (ls : List Level). levels_at nodes all ls allowed (rest ++ more)) is
      ∙ levels_front nodes all front (level ∷ []) allowed (rest ++ more)
      ∙ ap (λ (r : Read ℕ). r >>= λ x. levels_at nodes all front x.0 x.1) (g.same more fit)
      ∙ sym (levels_front nodes all front parts m (after ++ more))

  -- what the innermost part is refused for, all is refused for
  pub all_fail : (w : Why) (left : ℕ) → level_at nodes (length bytes) level allowed rest ≡ Err (w, left) → levels_at nodes (length bytes) levels allowed rest ≡ Err (w, left)
  all_fail w left h =
      ap (λ (ls : List Level). levels_at nodes (length bytes) ls allowed rest) is
      ∙ levels_front nodes (length bytes) front (level ∷ []) allowed rest
      ∙ ap (λ (r : Read ℕ). r >>= λ x. levels_at nodes (length bytes) front x.0 x.1) h

-- without more bytes
pub continues_here : (nodes : List Node) (id : ℕ) (bytes : List ℕ) → IsBytes bytes → (levels : List Level) (allowed : ℕ) (rest : List ℕ) → Continues nodes id bytes levels allowed rest → pass_at (value_at (schema nodes id)) node_limit bytes ≡ levels_at nodes (length bytes) levels allowed rest
continues_here nodes id bytes fits levels allowed rest on =
    let none : length bytes + 0 ≡ length bytes = omega arith in
    let fine : IsBytes (bytes ++ []) = rw append-nil fits in
    ap (pass_at (value_at (schema nodes id)) node_limit) (sym (append-nil bytes))
    ∙ on [] fine
    ∙ ap (λ (all : ℕ). levels_at nodes all levels allowed (rest ++ [])) none
    ∙ ap (levels_at nodes (length bytes) levels allowed) (append-nil rest)

pub going_fails : (nodes : List Node) (id : ℕ) (bytes : List ℕ) → IsBytes bytes → (levels front : List Level) (level : Level) → levels ≡ front ++ level ∷ [] → (allowed : ℕ) (rest : List ℕ) → (text : List ℕ) × (bytes ≡ text ++ rest)
    → Continues nodes id bytes levels allowed rest → (e : Fault) → TurnFails nodes (length bytes) level allowed rest e → GoingFails nodes id bytes e
going_fails nodes id bytes fits levels front level is allowed rest tied on fault.Memory h = tt
going_fails nodes id bytes fits levels front level is allowed rest tied on (fault.At w left) h =
    (continues_here nodes id bytes fits levels allowed rest on ∙ all_fail nodes id bytes fits levels front level is allowed rest tied on w left h.0, h.1)

-- ---- what is read of the bytes

pub read_whole : (nodes : List Node) (id : ℕ) (bytes : List ℕ) → IsBytes bytes → (levels : List Level) (allowed : ℕ) (rest : List ℕ) → Continues nodes id bytes levels allowed rest → levels ≡ [] → (v : Value) × (read_value (schema nodes id) node_limit bytes ≡ Ok (v, length bytes - length rest))
read_whole nodes id bytes fits levels allowed rest on none =
    spans_ok (schema nodes id) node_limit bytes allowed rest (continues_here nodes id bytes fits levels allowed rest on ∙ ap (λ (ls : List Level). levels_at nodes (length bytes) ls allowed rest) none)

pub read_short : (nodes : List Node) (id : ℕ) (bytes : List ℕ) → IsBytes bytes → (levels : List Level) (allowed : ℕ) (rest : List ℕ) → Continues nodes id bytes levels allowed rest → (left : ℕ) → levels_at nodes (length bytes) levels allowed rest ≡ Err (why.Short, left)
    → (offset : ℕ) × (read_value (schema nodes id) node_limit bytes ≡ Err (r.Short offset))
read_short nodes id bytes fits levels allowed rest on left h =
    (length bytes - left, spans_err (schema nodes id) node_limit bytes why.Short left (continues_here nodes id bytes fits levels allowed rest on ∙ h))

not_short : (w : Why) (at : ℕ) → (w ≡ why.Short → ⊥) → IsNotShort (refusal w at)
not_short why.Short at some offset e = some refl
not_short why.Number at some offset e = cc
not_short why.Range at some offset e = cc
not_short why.Bool at some offset e = cc
not_short why.Branch at some offset e = cc
not_short why.Utf8 at some offset e = cc
not_short why.Length at some offset e = cc
not_short why.BlockSize at some offset e = cc
not_short why.DoubleKey at some offset e = cc
not_short why.Limit at some offset e = cc

pub read_refused : (nodes : List Node) (id : ℕ) (bytes : List ℕ) (w : Why) (left : ℕ) → GoingFails nodes id bytes (fault.At w left) → PassRefuses (read_value (schema nodes id) node_limit bytes) (refusal w (length bytes - left))
read_refused nodes id bytes w left h = inr (spans_err (schema nodes id) node_limit bytes w left h.0, not_short w (length bytes - left) h.1)
