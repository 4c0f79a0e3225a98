-- Reading whose result is seen through a function: without the value, or as a value of another type.
use Rattle.std.specs.Prelude.{◌++◌, ℕ, List, [], ◌∷◌, length, if◌then◌else◌, Ok, Err}
use Rattle.std.specs.Ordering.{nat_cmp}
use Rattle.std.specs.Cmp.Lexicographic.{slice_cmp}
use Rattle.std.specs.BTreeMap.{insert_entry}
use Rattle.avro_bin.specs.declared.fault.Why.TheVariants as why
use Rattle.avro_bin.specs.Schema.{Schemas, none, more}
use Rattle.avro_bin.specs.Reading.{Read, ◌>>=◌, Got, text_at, has, value_at}

-- what was read, seen through f
abbrev pub along : {A B : Type 0} → (A → B) → Read A → Read B
along f (Ok x) = Ok (f x.0, x.1)
along f (Err e) = Err e

-- a value seen through f, and the nodes that are still allowed
abbrev pub seen : {A B : Type 0} → (A → B) → A × ℕ → B × ℕ
seen f x = (f x.0, x.1)

-- a value and the nodes that are still allowed, as one item more
unfoldable pub push_at : {A : Type 0} → (ℕ → List ℕ → Read (A × ℕ)) → List A × ℕ → List ℕ → Read (List A × ℕ)
push_at value s bytes = along (λ x. (s.0 ++ x.0 ∷ [], x.1)) (value s.1 bytes)

-- a name that has not occurred yet, and its value
unfoldable pub put_at : {A : Type 0} → (ℕ → List ℕ → Read (A × ℕ)) → List (List ℕ × A) × ℕ → List ℕ → Read (List (List ℕ × A) × ℕ)
put_at value s bytes = do
  k ← text_at bytes
  if has k.0 s.0 then Err (why.DoubleKey, length bytes) else along (λ x. (insert_entry (slice_cmp nat_cmp) s.0 k.0 x.0, x.1)) (value s.1 k.1)

-- the nodes that are still allowed after a value
unfoldable pub pass_at : (ℕ → List ℕ → Read Got) → ℕ → List ℕ → Read ℕ
pass_at value n bytes = along (λ x. x.1) (value n bytes)

-- a value that is not kept, and the nodes that are still allowed
unfoldable pub mark_at : (ℕ → List ℕ → Read Got) → ℕ → List ℕ → Read (Unit {0} × ℕ)
mark_at value n bytes = along (seen (λ v. tt)) (value n bytes)

-- the nodes that are still allowed after fields
unfoldable pub pass_fields_at : Schemas → ℕ → List ℕ → Read ℕ
pass_fields_at none n bytes = Ok (n, bytes)
pass_fields_at (more s ss) n bytes = do
  x ← pass_at (value_at s) n bytes
  pass_fields_at ss x.0 x.1
