-- How far a value that comes in pieces has been passed.
use Rattle.std.specs.Prelude.{◌≡◌, ◌++◌, ◌⊎◌, Bool, true, false, ℕ, ◌+◌, ◌<◌, ◌≤◌, List, [], length, drop, Result, Ok, Err}
use Rattle.std.specs.List.{AllByRecursion}
use Rattle.avro_bin.specs.declared.fault.Why.TheVariants as why
use Rattle.avro_bin.specs.declared.fault.Fault.{Fault}
use Rattle.avro_bin.specs.declared.fault.Fault.TheVariants as fault
use Rattle.avro_bin.specs.declared.refusal.Refusal.{Refusal}
use Rattle.avro_bin.specs.declared.refusal.Refusal.TheVariants as r
use Rattle.avro_bin.specs.declared.schema.Node.{Node}
use Rattle.avro_bin.specs.Value.{Value}
use Rattle.avro_bin.specs.Schema.{schema}
use Rattle.avro_bin.specs.Reading.{value_at}
use Rattle.avro_bin.specs.Along.{pass_at}
use Rattle.avro_bin.specs.Laws.{IsBytes, IsNotShort, node_limit}
use Rattle.avro_pieces.specs.Levels.{IsLevel, levels_at}
use Rattle.avro_pieces.specs.declared.level.Level.{Level}
use Rattle.avro_pieces.specs.declared.going.Going.{Going}
use Rattle.avro_pieces.specs.declared.going.Moved.{Moved}
use Rattle.avro_pieces.specs.declared.going.Moved.TheVariants as m
use Rattle.avro_pieces.specs.declared.passage.Passage.{Passage}
use Rattle.avro_pieces.specs.declared.passage.Passed.{Passed}
use Rattle.avro_pieces.specs.declared.passage.Passed.TheVariants as p

-- whatever comes after the bytes, passing a value of the node is passing these parts of it, in the bytes that are left
abbrev pub Continues : List Node → ℕ → List ℕ → List Level → ℕ → List ℕ → Type 0
Continues nodes id bytes levels allowed rest =
    (more : List ℕ) → IsBytes (bytes ++ more) → pass_at (value_at (schema nodes id)) node_limit (bytes ++ more) ≡ levels_at nodes (length bytes + length more) levels allowed (rest ++ more)

-- the parts that are still to come of a node's value, and the bytes that are left for them
pub record IsGoing (nodes : List Node) (id : ℕ) (bytes : List ℕ) (g : Going) : Type 0 where
  pub tied : (text : List ℕ) × (bytes ≡ text ++ g.rest.now)
  pub there : AllByRecursion (IsLevel nodes (length bytes)) g.levels.items
  pub continues : Continues nodes id bytes g.levels.items g.allowed g.rest.now

-- all is passed, or the bytes end inside a part
abbrev pub Stops : List Node → List ℕ → Going → Bool → Type 0
Stops nodes bytes g true = g.levels.items ≡ []
Stops nodes bytes g false = (left : ℕ) × (levels_at nodes (length bytes) g.levels.items g.allowed g.rest.now ≡ Err (why.Short, left))

-- one step on, or the end
abbrev pub MovesTo : List Node → ℕ → List ℕ → Moved → Type 0
MovesTo nodes id bytes (m.On g) = IsGoing nodes id bytes g
MovesTo nodes id bytes (m.Stop g is_whole) = IsGoing nodes id bytes g × Stops nodes bytes g is_whole

-- a fault of the value that no further bytes mend, unless memory ran out
abbrev pub GoingFails : List Node → ℕ → List ℕ → Fault → Type 0
GoingFails nodes id bytes fault.Memory = Unit {0}
GoingFails nodes id bytes (fault.At w left) = (pass_at (value_at (schema nodes id)) node_limit bytes ≡ Err (w, left)) × (w ≡ why.Short → ⊥)

-- a passage has come so far in the bytes: whatever follows them, what is left of the value is what it will pass
pub record StandsAt (nodes : List Node) (bytes : List ℕ) (p : Passage) : Type 0 where
  pub id : p.id < length nodes
  pub within : p.at ≤ length bytes
  pub there : AllByRecursion (IsLevel nodes (length bytes)) p.levels.items
  pub continues : Continues nodes p.id bytes p.levels.items p.allowed (drop p.at bytes)

-- what a passage says of bytes of which reading says this
abbrev pub Passes : Result (Value × ℕ) Refusal → Passed → Type 0
Passes read p.More = (offset : ℕ) × (read ≡ Err (r.Short offset))
Passes read (p.Whole len) = (v : Value) × (read ≡ Ok (v, len))

-- why a passage refuses bytes of which reading says this
abbrev pub PassRefuses : Result (Value × ℕ) Refusal → Refusal → Type 0
PassRefuses read e = (e ≡ r.NoMemory) ⊎ ((read ≡ Err e) × IsNotShort e)

-- a passage that has come so far in some bytes has come so far in them with more behind them
abbrev pub StandsLonger : Type 0
StandsLonger = (nodes : List Node) (bytes more : List ℕ) (p : Passage) → StandsAt nodes bytes p → StandsAt nodes (bytes ++ more) p
