-- What opening a node makes of it.
use Rattle.std.proofs.Common.{◌≡◌, ℕ, ◌+◌, ◌-◌, ◌<◌, ◌≤◌, List, [], ◌∷◌, ◌++◌, Ok, Err, length, map, drop, get_or, None, refl, sym, ap, ◌∙◌, arith}
use Rattle.std.specs.List.{AllByRecursion}
use Rattle.std.proofs.lemmas.List.{drop_more, drop_all}
use Rattle.avro_bin.specs.declared.fault.Why.TheVariants as why
use Rattle.avro_bin.specs.declared.schema.Node.{Node}
use Rattle.avro_bin.specs.declared.schema.Node.TheVariants as node
use Rattle.avro_bin.specs.Schema.{Schema, schema, schemas, IsTable}
use Rattle.avro_bin.specs.Reading.{Read, ◌>>=◌, value_at, branch_at, place_at, count}
use Rattle.avro_bin.specs.Along.{along, pass_at, pass_fields_at, put_at, mark_at}
use Rattle.avro_bin.proofs.SchemaLemmas.{below}
use Rattle.avro_bin.proofs.FoundLemmas.{place_found}
use Rattle.avro_bin.proofs.StepLemmas.{count_is, branch_is, all_at, place_below}
use Rattle.avro_bin.proofs.AlongLemmas.{pass_array, pass_map, pass_record, pass_union}
use Rattle.avro_bin.proofs.PassingLemmas.{pass_zero, pass_node}
use Rattle.avro_pieces.specs.declared.level.Level.TheVariants as l
use Rattle.avro_pieces.specs.declared.level.Fields.{Fields}
use Rattle.avro_pieces.specs.Levels.{rest_of}
use Rattle.avro_pieces.specs.Passing.{GoesOn}
use Rattle.avro_pieces.proofs.LongerLemmas.{place_longer, pass_longer}
use Rattle.avro_pieces.proofs.RestLemmas.{rest_head}
use Rattle.avro_pieces.proofs.TurnLemmas.{stays, pass_leaves}

pub node_over : (nodes : List Node) (all id n : ℕ) (bytes : List ℕ) (m : ℕ) (rest : List ℕ) → pass_at (value_at (schema nodes id)) n bytes ≡ Ok (m, rest) → GoesOn nodes all (l.Node id) n bytes [] m rest
node_over nodes all id n bytes m rest h = record {
  front = λ fits. pass_leaves (schema nodes id) n bytes m rest fits h;
  same = λ more fits. (pass_longer bytes rest more fits (schema nodes id) n m h).again;
}

pub none_allowed : (nodes : List Node) (id n : ℕ) (bytes : List ℕ) → n ≡ 0 → pass_at (value_at (schema nodes id)) n bytes ≡ Err (why.Limit, length bytes)
none_allowed nodes id n bytes is = rw is (pass_zero (schema nodes id) bytes)

above : (P : ℕ) (id : ℕ) (cs : List ℕ) → id < P → AllByRecursion (λ child. child < id) cs → AllByRecursion (λ child. child < P) cs
above p id [] lt all = tt
above p id (c ∷ cs) lt all = (omega (arith, lt, all.0), above p id cs lt all.1)

branch_passed : (f : ℕ → Schema) (ps : List ℕ) (b n : ℕ) (after : List ℕ) → b < length ps → pass_at (branch_at (schemas (map f ps)) b) n after ≡ pass_at (value_at (f (get_or ps b 0))) n after
unfolding pass_at
branch_passed f ps b n after lt = ap (along (λ x. x.1)) (branch_is f ps b n after lt)

module _ (nodes : List Node) (table : IsTable nodes) (all id n : ℕ) (bytes : List ℕ) (there : id < length nodes) (some : n ≡ 0 → ⊥) where
  pub open_fields : (f : Fields) → get_or nodes id node.Null ≡ node.Fields f.places → f.next ≡ 0 → GoesOn nodes all (l.Node id) n bytes (l.Fields f ∷ []) (n - 1) bytes
  open_fields f is first = record {
    front = stays bytes;
    same = λ more fits.
        pass_node nodes table id n (bytes ++ more) (node.Fields f.places) there is some
        ∙ pass_record (schemas (map (schema nodes) f.places.now)) (n - 1) (bytes ++ more)
        ∙ ap (λ (i : ℕ). pass_fields_at (schemas (map (schema nodes) (drop i f.places.now))) (n - 1) (bytes ++ more)) (sym first);
  }

  pub fields_there : (f : Fields) → get_or nodes id node.Null ≡ node.Fields f.places → AllByRecursion (λ child. child < length nodes) f.places.now
  fields_there f is = above (length nodes) id f.places.now there (below nodes table id (node.Fields f.places) there is)

  pub open_array : (child : ℕ) → get_or nodes id node.Null ≡ node.Array child → GoesOn nodes all (l.Node id) n bytes (l.Items child 0 None ∷ []) (n - 1) bytes
  open_array child is = record {
    front = stays bytes;
    same = λ more fits.
        pass_node nodes table id n (bytes ++ more) (node.Array child) there is some
        ∙ pass_array (schema nodes child) (n - 1) (bytes ++ more)
        ∙ sym (rest_head (pass_at (value_at (schema nodes child))) (all + length more) None (n - 1) (bytes ++ more) refl);
  }

  pub array_there : (child : ℕ) → get_or nodes id node.Null ≡ node.Array child → child < length nodes
  array_there child is = let b = below nodes table id (node.Array child) there is in omega (arith, there, b.0)

  pub map_there : (child : ℕ) → get_or nodes id node.Null ≡ node.Map child → child < length nodes
  map_there child is = let b = below nodes table id (node.Map child) there is in omega (arith, there, b.0)

  pub open_map : (child : ℕ) (es : List (List ℕ × Unit {0})) → get_or nodes id node.Null ≡ node.Map child → es ≡ [] → (more : List ℕ)
      → pass_at (value_at (schema nodes id)) n (bytes ++ more) ≡ along (λ t. t.1) (rest_of (put_at (mark_at (value_at (schema nodes child)))) (all + length more) None 0 (es, n - 1) (bytes ++ more))
  open_map child es is empty more =
      let item = put_at (mark_at (value_at (schema nodes child))) in
      pass_node nodes table id n (bytes ++ more) (node.Map child) there is some
      ∙ pass_map (schema nodes child) (n - 1) (bytes ++ more)
      ∙ ap (along (λ t. t.1)) (sym (rest_head item (all + length more) None ([], n - 1) (bytes ++ more) refl))
      ∙ ap (λ (fs : List (List ℕ × Unit {0})). along (λ t. t.1) (rest_of item (all + length more) None 0 (fs, n - 1) (bytes ++ more))) (sym empty)

  pub branch_there : (places : List ℕ) (b : ℕ) → AllByRecursion (λ child. child < id) places → b < length places → get_or places b 0 < length nodes
  branch_there places b under lt = let c = all_at (λ child. child < id) places b under lt in omega (arith, c, there)

  pub open_union : (us : Fields) (b : ℕ) (rest : List ℕ) → get_or nodes id node.Null ≡ node.Union us.places → place_at (length us.places.now) bytes ≡ Ok (b, rest)
      → GoesOn nodes all (l.Node id) n bytes (l.Node (get_or us.places.now b 0) ∷ []) (n - 1) rest
  open_union us b rest is h = record {
    front = λ fits. let f = place_found (length us.places.now) bytes b rest fits h in (f.text, f.parts);
    same = λ more fits.
        let longer = place_longer bytes rest more fits (length us.places.now) b h in
        let lt : b < length us.places.now = place_below (length us.places.now) bytes b rest h in
        let counted : place_at (count (schemas (map (schema nodes) us.places.now))) (bytes ++ more) ≡ Ok (b, rest ++ more) = rw count_is longer.again in
        pass_node nodes table id n (bytes ++ more) (node.Union us.places) there is some
        ∙ pass_union (schemas (map (schema nodes) us.places.now)) (n - 1) (bytes ++ more)
        ∙ ap (λ (r : Read ℕ). r >>= λ c. pass_at (branch_at (schemas (map (schema nodes) us.places.now)) c.0) (n - 1) c.1) counted
        ∙ branch_passed (schema nodes) us.places.now b (n - 1) (rest ++ more) lt;
  }

pub field_over : (nodes : List Node) (all : ℕ) (f : Fields) (n : ℕ) (bytes : List ℕ) → length f.places.now ≤ f.next → GoesOn nodes all (l.Fields f) n bytes [] n bytes
unfolding pass_fields_at
field_over nodes all f n bytes few = record { front = stays bytes; same = λ more fits. ap (λ (qs : List ℕ). pass_fields_at (schemas (map (schema nodes) qs)) n (bytes ++ more)) (drop_all f.next f.places.now few) }

pub field_turn : (nodes : List Node) (all : ℕ) (f g : Fields) (n : ℕ) (bytes : List ℕ) → f.next < length f.places.now → g.places.now ≡ f.places.now → g.next ≡ f.next + 1
    → GoesOn nodes all (l.Fields f) n bytes (l.Fields g ∷ l.Node (get_or f.places.now f.next 0) ∷ []) n bytes
unfolding pass_fields_at
field_turn nodes all f g n bytes lt places next = record {
  front = stays bytes;
  same = λ more fits.
      ap (λ (qs : List ℕ). pass_fields_at (schemas (map (schema nodes) qs)) n (bytes ++ more)) (drop_more f.places.now f.next 0 lt)
      ∙ ap (λ (qs : List ℕ). pass_at (value_at (schema nodes (get_or f.places.now f.next 0))) n (bytes ++ more) >>= λ x. pass_fields_at (schemas (map (schema nodes) qs)) x.0 x.1) (ap (drop (f.next + 1)) (sym places) ∙ ap (λ (i : ℕ). drop i g.places.now) (sym next));
}
