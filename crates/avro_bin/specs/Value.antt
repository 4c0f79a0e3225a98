-- Values: what trees denote, apart from where they are in memory.
use Rattle.std.specs.Prelude.{ℕ, suc, ◌+◌, Bool, ℤ, List, [], ◌∷◌}

-- a value of each kind of node
mutual
  pub data Value : Type 0 where
    VNull : Value
    VBoolean : Bool → Value
    VInt : ℤ → Value
    VLong : ℤ → Value
    VFloat : (bits : ℕ) → Value
    VDouble : (bits : ℕ) → Value
    VBytes : List ℕ → Value
    VText : List ℕ → Value
    VFixed : List ℕ → Value
    VEnum : (place : ℕ) → Value
    VArray : Values → Value
    VMap : Entries → Value
    VUnion : (branch : ℕ) → Value → Value
    VFields : Values → Value

  pub data Values : Type 0 where
    none : Values
    more : Value → Values → Values

  -- under their names
  pub data Entries : Type 0 where
    none_named : Entries
    more_named : List ℕ → Value → Entries → Entries

-- the values of a list
abbrev pub row : List Value → Values
row [] = none
row (v ∷ vs) = more v (row vs)

-- a list of the values
abbrev pub list : Values → List Value
list none = []
list (more v vs) = v ∷ list vs

-- the values of a list under their names
abbrev pub entries : List (List ℕ × Value) → Entries
entries [] = none_named
entries (p ∷ ps) = more_named p.0 p.1 (entries ps)

-- a list of the names and values
abbrev pub pairs : Entries → List (List ℕ × Value)
pairs none_named = []
pairs (more_named n v es) = (n, v) ∷ pairs es

-- a value counts 1 plus the values in it; names count nothing
abbrev mutual
  pub nodes : Value → ℕ
  nodes (VArray vs) = suc (nodes_in vs)
  nodes (VMap es) = suc (nodes_named es)
  nodes (VFields vs) = suc (nodes_in vs)
  nodes (VUnion branch v) = suc (nodes v)
  nodes _ = 1

  pub nodes_in : Values → ℕ
  nodes_in none = 0
  nodes_in (more v vs) = nodes v + nodes_in vs

  pub nodes_named : Entries → ℕ
  nodes_named none_named = 0
  nodes_named (more_named n v es) = nodes v + nodes_named es
