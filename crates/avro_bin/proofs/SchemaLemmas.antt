-- A table's schemas, one level at a time.
use Rattle.std.proofs.Common.{◌≡◌, ℕ, zero, suc, ◌-◌, ◌<◌, List, [], ◌∷◌, length, map, get_or, Option, Some, None, refl, ap, ◌∙◌, arith, true}
use Rattle.std.specs.Prelude.{slice_get}
use Rattle.std.specs.List.{AllByRecursion}
use Rattle.std.proofs.lemmas.Option.{slice_get-get_or}
use Rattle.avro_bin.specs.declared.schema.Node.{Node}
use Rattle.avro_bin.specs.declared.schema.Node.TheVariants as n
use Rattle.avro_bin.specs.Schema.{Schema, SArray, SMap, SUnion, SFields, schemas, node_schema, some_schema, schema_to, schema, children, IsTable, is_leaf}
use Rattle.avro_bin.specs.Reading.{value_at}

map_same : (f g : ℕ → Schema) (P : ℕ → Type 0) (xs : List ℕ) → ((c : ℕ) → P c → f c ≡ g c) → AllByRecursion P xs → map f xs ≡ map g xs
map_same f g P [] h all = refl
map_same f g P (x ∷ xs) h all =
    let one : f x ≡ g x = h x all.0 in
    let others : map f xs ≡ map g xs = map_same f g P xs h all.1 in
    cc

node_schema_same : (f g : ℕ → Schema) (P : ℕ → Type 0) (node : Node) → ((c : ℕ) → P c → f c ≡ g c) → AllByRecursion P (children node) → node_schema f node ≡ node_schema g node
node_schema_same f g P (n.Array c) h all = ap SArray (h c all.0)
node_schema_same f g P (n.Map c) h all = ap SMap (h c all.0)
node_schema_same f g P (n.Union cs) h all = ap (λ (ss : List Schema). SUnion (schemas ss)) (map_same f g P cs.now h all)
node_schema_same f g P (n.Fields cs) h all = ap (λ (ss : List Schema). SFields (schemas ss)) (map_same f g P cs.now h all)
node_schema_same f g P n.Null h all = refl
node_schema_same f g P n.Boolean h all = refl
node_schema_same f g P n.Int h all = refl
node_schema_same f g P n.Long h all = refl
node_schema_same f g P n.Float h all = refl
node_schema_same f g P n.Double h all = refl
node_schema_same f g P n.Bytes h all = refl
node_schema_same f g P n.Text h all = refl
node_schema_same f g P (n.Fixed size) h all = refl
node_schema_same f g P (n.Enum size) h all = refl

some_same : (f g : ℕ → Schema) (P : ℕ → Type 0) (o : Option Node) → ((c : ℕ) → P c → f c ≡ g c) → ((node : Node) → o ≡ Some node → AllByRecursion P (children node)) → some_schema f o ≡ some_schema g o
some_same f g P None h all = refl
some_same f g P (Some node) h all = node_schema_same f g P node h (all node refl)

-- how deep one looks makes no difference beyond the place
pub schema_to_any : (nodes : List Node) → IsTable nodes → (d e id : ℕ) → id < d → id < e → schema_to d nodes id ≡ schema_to e nodes id
unfolding schema_to
schema_to_any nodes t zero e id lt lt' = absurd (omega arith)
schema_to_any nodes t (suc d) zero id lt lt' = absurd (omega arith)
schema_to_any nodes t (suc d) (suc e) id lt lt' =
    some_same (schema_to d nodes) (schema_to e nodes) (λ c. c < id) (slice_get nodes id) (λ c below. schema_to_any nodes t d e c (omega arith) (omega arith)) (λ node is. t id node is)

pub schema_is : (nodes : List Node) → IsTable nodes → (id : ℕ) (node : Node) → slice_get nodes id ≡ Some node → schema nodes id ≡ node_schema (schema nodes) node
unfolding schema_to
schema_is nodes t id node is =
    ap (some_schema (schema_to id nodes)) is
    ∙ node_schema_same (schema_to id nodes) (schema nodes) (λ c. c < id) node (λ c below. schema_to_any nodes t id (suc c) c below (omega arith)) (t id node is)

-- a value at a place is one at its node
pub at_node : (nodes : List Node) → IsTable nodes → (id count : ℕ) (bytes : List ℕ) (node : Node) → id < length nodes → get_or nodes id n.Null ≡ node → (count ≡ 0 → ⊥) → value_at (schema nodes id) count bytes ≡ value_at (node_schema (schema nodes) node) (suc (count - 1)) bytes
at_node nodes t id count bytes node there is some =
    let e : count ≡ suc (count - 1) = omega arith in
    let s : schema nodes id ≡ node_schema (schema nodes) node = schema_is nodes t id node (slice_get-get_or nodes id n.Null there ∙ ap Some is) in
    cc

pub below : (nodes : List Node) → IsTable nodes → (id : ℕ) (node : Node) → id < length nodes → get_or nodes id n.Null ≡ node → AllByRecursion (λ child. child < id) (children node)
below nodes t id node there is = t id node (slice_get-get_or nodes id n.Null there ∙ ap Some is)

pub leaf_is : (node : Node) → ((c : _) → node ≡ n.Array c → ⊥) → ((c : _) → node ≡ n.Map c → ⊥) → ((c : _) → node ≡ n.Union c → ⊥) → ((c : _) → node ≡ n.Fields c → ⊥) → is_leaf node ≡ true
leaf_is (n.Array c) a m u f = absurd (a c refl)
leaf_is (n.Map c) a m u f = absurd (m c refl)
leaf_is (n.Union c) a m u f = absurd (u c refl)
leaf_is (n.Fields c) a m u f = absurd (f c refl)
leaf_is n.Null a m u f = refl
leaf_is n.Boolean a m u f = refl
leaf_is n.Int a m u f = refl
leaf_is n.Long a m u f = refl
leaf_is n.Float a m u f = refl
leaf_is n.Double a m u f = refl
leaf_is n.Bytes a m u f = refl
leaf_is n.Text a m u f = refl
leaf_is (n.Fixed size) a m u f = refl
leaf_is (n.Enum size) a m u f = refl
