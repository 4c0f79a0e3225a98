-- Schemas: a table of nodes, and the tree that it unfolds to from a place.
use Rattle.std.specs.Prelude.{◌≡◌, Bool, true, false, ℕ, zero, suc, ◌<◌, List, [], ◌∷◌, map, Option, Some, None, slice_get, nat_lt, if◌then◌else◌}
use Rattle.std.specs.List.{AllByRecursion}
use Rattle.avro_bin.specs.declared.schema.Node.{Node}
use Rattle.avro_bin.specs.declared.schema.Node.TheVariants as n

-- a schema, without the places of a table
mutual
  pub data Schema : Type 0 where
    SNull : Schema
    SBoolean : Schema
    SInt : Schema
    SLong : Schema
    SFloat : Schema
    SDouble : Schema
    SBytes : Schema
    SText : Schema
    SFixed : (size : ℕ) → Schema
    SEnum : (count : ℕ) → Schema
    SArray : Schema → Schema
    SMap : Schema → Schema
    SUnion : Schemas → Schema
    SFields : Schemas → Schema

  -- of fields or branches, in their order
  pub data Schemas : Type 0 where
    none : Schemas
    more : Schema → Schemas → Schemas

-- the schemas of a list
abbrev pub schemas : List Schema → Schemas
schemas [] = none
schemas (s ∷ ss) = more s (schemas ss)

-- one node, with the schema of each place
abbrev pub node_schema : (ℕ → Schema) → Node → Schema
node_schema at n.Null = SNull
node_schema at n.Boolean = SBoolean
node_schema at n.Int = SInt
node_schema at n.Long = SLong
node_schema at n.Float = SFloat
node_schema at n.Double = SDouble
node_schema at n.Bytes = SBytes
node_schema at n.Text = SText
node_schema at (n.Fixed size) = SFixed size
node_schema at (n.Enum count) = SEnum count
node_schema at (n.Array child) = SArray (at child)
node_schema at (n.Map child) = SMap (at child)
node_schema at (n.Union children) = SUnion (schemas (map at children.now))
node_schema at (n.Fields children) = SFields (schemas (map at children.now))

-- the schema of a node that exists
abbrev pub some_schema : (ℕ → Schema) → Option Node → Schema
some_schema at None = SNull
some_schema at (Some node) = node_schema at node

-- the schema at a place, looked up to this depth at most
unfoldable pub schema_to : ℕ → List Node → ℕ → Schema
schema_to zero nodes id = SNull
schema_to (suc depth) nodes id = some_schema (schema_to depth nodes) (slice_get nodes id)

-- the schema at a place of a table, whose children have smaller places
abbrev pub schema : List Node → ℕ → Schema
schema nodes id = schema_to (suc id) nodes id

-- the places that a node names
abbrev pub children : Node → List ℕ
children (n.Array child) = child ∷ []
children (n.Map child) = child ∷ []
children (n.Union places) = places.now
children (n.Fields places) = places.now
children _ = []

-- each node comes after its children
abbrev pub IsTable : List Node → Type 0
IsTable nodes = (id : ℕ) (node : Node) → slice_get nodes id ≡ Some node → AllByRecursion (λ child. child < id) (children node)

-- whether a node has no children
abbrev pub is_leaf : Node → Bool
is_leaf (n.Array child) = false
is_leaf (n.Map child) = false
is_leaf (n.Union places) = false
is_leaf (n.Fields places) = false
is_leaf _ = true

-- whether each child comes before a place
abbrev pub all_below : ℕ → List ℕ → Bool
all_below id [] = true
all_below id (child ∷ rest) = if nat_lt child id then all_below id rest else false

-- the test of a table's nodes from a place on: it computes, whereas `IsTable` asks for a proof
abbrev pub is_table : ℕ → List Node → Bool
is_table id [] = true
is_table id (node ∷ rest) = if all_below id (children node) then is_table (suc id) rest else false
