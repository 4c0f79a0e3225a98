use Rattle.std.proofs.Common.{◌≡◌, length, map, [], ◌∷◌, ◌++◌, get_or, ◌<◌, List, ℕ, true, false, refl, ap, sym, ◌∙◌, arith, rules, FitsSigned, w64, of_z, to_z, to_z-of_z}
use Rattle.std.proofs.lemmas.Result.{err_from_is_err_and}
use Rattle.std.proofs.lemmas.List.{map_push}
use Rattle.avro_bin.specs.Value.{VArray, VFields}
use Rattle.avro_bin.specs.Reading.{value_at, listed, mapped, element_at, entry_at, has}
use Rattle.std.specs.Ordering.{nat_cmp}
use Rattle.std.specs.Cmp.Lexicographic.{slice_cmp}
use Rattle.std.specs.BTreeMap.{insert_entry}
use Rattle.avro_bin.specs.Schema.{schema}
use Rattle.avro_bin.specs.View.{value_of, entry_of}
use Rattle.avro_bin.specs.declared.schema.Node.TheVariants as n
use Rattle.avro_bin.proofs.ViewLemmas.{value_array, value_map, value_fields, value_union}
use Rattle.avro_bin.proofs.SchemaLemmas.{at_node, below, leaf_is}
use Rattle.avro_bin.proofs.StepLemmas.{Fails-listed, Fails-mapped, Fails-in_branch, Fails-then, Fails-element, element_is, items_next, items_fail, items_done, blocks_stop, blocks_more, blocks_ends, blocks_none, blocks_fail, is_zero, count_is, branch_is, all_at, place_below, fields_next, fields_fail, fields_end, has_map, insert_map, entry_no_key, entry_double, entry_fails, entry_is}
use Rattle.avro_bin.proofs.decoding.+decode.Goals as goal

pub array-returns-in_err-count : goal.array-returns-in_err-count
unfolding value_at
array-returns-in_err-count t c =
    let p = err_from_is_err_and c.from_residual.result c.from_residual.ensures.1 in
    rw (p.1, p.2) (Fails-listed c.in_err-count.field-0.0 VArray _ (blocks_ends (element_at (value_at (schema c.args.nodes.now c.args.child))) c.in_err-count.field-0.0 (length c.args.bytes.now) c.loop.counter _ c.loop.rest.now _ c.loop-test.true c.in_err-count.ensures c.loop.invariant))

pub array-returns-then-count-eq0 : goal.array-returns-then-count-eq0
unfolding value_at
array-returns-then-count-eq0 t c =
    let f : FitsSigned w64 c.in_ok-count.count = search rules in
    rw (value_array, c.from_vec.ensures) (ap (listed VArray) (blocks_stop (element_at (value_at (schema c.args.nodes.now c.args.child))) (length c.args.bytes.now) c.loop.counter _ c.loop.rest.now c.in_ok-count.count c.in_ok-count.after.now _ c.loop-test.true c.in_ok-count.ensures (is_zero c.in_ok-count.count f c.if-count-eq0.true) c.loop.invariant))

pub array-returns-in_err-more : goal.array-returns-in_err-more
unfolding value_at
array-returns-in_err-more t c =
    let p = err_from_is_err_and c.from_residual-in_err-more.result c.from_residual-in_err-more.ensures.1 in
    let f : FitsSigned w64 c.in_ok-count.count = search rules in let same : to_z w64 (of_z w64 c.in_ok-count.count) ≡ c.in_ok-count.count = to_z-of_z f in
    let h = rw same at c.in_err-more.ensures in
    rw (p.1, p.2) (Fails-listed c.in_err-more.field-0.0 VArray _ (blocks_fail (element_at (value_at (schema c.args.nodes.now c.args.child))) c.in_err-more.field-0.0 (length c.args.bytes.now) c.loop.counter _ c.loop.rest.now c.in_ok-count.count c.in_ok-count.after.now _ c.loop-test.true c.in_ok-count.ensures c.if-count-eq0.false h c.loop.invariant))

pub array-loop-preserved : goal.array-loop-preserved
array-loop-preserved t c =
    let f : FitsSigned w64 c.in_ok-count.count = search rules in let same : to_z w64 (of_z w64 c.in_ok-count.count) ≡ c.in_ok-count.count = to_z-of_z f in
    let h = rw same at c.in_ok-more.ensures in
    blocks_more (element_at (value_at (schema c.args.nodes.now c.args.child))) (length c.args.bytes.now) c.loop.counter _ c.loop.rest.now c.in_ok-count.count c.in_ok-count.after.now _ _ c.loop-test.true c.in_ok-count.ensures c.if-count-eq0.false h c.loop.invariant

pub array-returns : goal.array-returns
unfolding value_at
array-returns t c = ap (listed VArray) (blocks_none (element_at (value_at (schema c.args.nodes.now c.args.child))) (length c.args.bytes.now) c.loop.counter _ c.loop.rest.now _ c.loop-test.false c.loop.invariant)

pub items-returns-in_err-tree : goal.items-returns-in_err-tree
items-returns-in_err-tree t c =
    let p = err_from_is_err_and c.from_residual.result c.from_residual.ensures.1 in
    rw (p.1, p.2) (items_fail (element_at (value_at (schema c.args.nodes.now c.args.child))) c.in_err-tree.field-0.0 c.args.count c.loop.counter (map value_of c.loop.all.items, c.loop.left) c.loop.rest.now _ c.loop-test.true (Fails-element c.in_err-tree.field-0.0 (value_at (schema c.args.nodes.now c.args.child)) (map value_of c.loop.all.items, c.loop.left) c.loop.rest.now c.in_err-tree.ensures) c.loop.invariant)

pub items-loop-preserved : goal.items-loop-preserved
items-loop-preserved t c =
    let e : map value_of c.push.new.self.items ≡ map value_of c.loop.all.items ++ value_of c.in_ok-tree.tree ∷ [] = rw c.in_ok-push.ensures.items (map_push _ c.loop.all.items c.in_ok-tree.tree) in
    rw e (items_next (element_at (value_at (schema c.args.nodes.now c.args.child))) c.args.count c.loop.counter (map value_of c.loop.all.items, c.loop.left) c.loop.rest.now _ _ c.loop-test.true (element_is (value_at (schema c.args.nodes.now c.args.child)) (map value_of c.loop.all.items) c.loop.left c.loop.rest.now _ c.in_ok-tree.ensures) c.loop.invariant)

pub items-returns : goal.items-returns
items-returns t c = items_done (element_at (value_at (schema c.args.nodes.now c.args.child))) c.args.count c.loop.counter _ c.loop.rest.now _ c.loop-test.false c.loop.invariant

pub dictionary-returns-in_err-count : goal.dictionary-returns-in_err-count
unfolding value_at
dictionary-returns-in_err-count t c =
    let p = err_from_is_err_and c.from_residual.result c.from_residual.ensures.1 in
    rw (p.1, p.2) (Fails-mapped c.in_err-count.field-0.0 _ (blocks_ends (entry_at (value_at (schema c.args.nodes.now c.args.child))) c.in_err-count.field-0.0 (length c.args.bytes.now) c.loop.counter _ c.loop.rest.now _ c.loop-test.true c.in_err-count.ensures c.loop.invariant))

pub dictionary-returns-then-count-eq0 : goal.dictionary-returns-then-count-eq0
unfolding value_at
dictionary-returns-then-count-eq0 t c =
    let f : FitsSigned w64 c.in_ok-count.count = search rules in
    rw (value_map, c.in_ok-named.ensures) (ap mapped (blocks_stop (entry_at (value_at (schema c.args.nodes.now c.args.child))) (length c.args.bytes.now) c.loop.counter _ c.loop.rest.now c.in_ok-count.count c.in_ok-count.after.now _ c.loop-test.true c.in_ok-count.ensures (is_zero c.in_ok-count.count f c.if-count-eq0.true) c.loop.invariant))

pub dictionary-returns-in_err-more : goal.dictionary-returns-in_err-more
unfolding value_at
dictionary-returns-in_err-more t c =
    let p = err_from_is_err_and c.from_residual-in_err-more.result c.from_residual-in_err-more.ensures.1 in
    let f : FitsSigned w64 c.in_ok-count.count = search rules in let same : to_z w64 (of_z w64 c.in_ok-count.count) ≡ c.in_ok-count.count = to_z-of_z f in
    let h = rw same at c.in_err-more.ensures in
    rw (p.1, p.2) (Fails-mapped c.in_err-more.field-0.0 _ (blocks_fail (entry_at (value_at (schema c.args.nodes.now c.args.child))) c.in_err-more.field-0.0 (length c.args.bytes.now) c.loop.counter _ c.loop.rest.now c.in_ok-count.count c.in_ok-count.after.now _ c.loop-test.true c.in_ok-count.ensures c.if-count-eq0.false h c.loop.invariant))

pub dictionary-loop-preserved : goal.dictionary-loop-preserved
dictionary-loop-preserved t c =
    let f : FitsSigned w64 c.in_ok-count.count = search rules in let same : to_z w64 (of_z w64 c.in_ok-count.count) ≡ c.in_ok-count.count = to_z-of_z f in
    let h = rw same at c.in_ok-more.ensures in
    blocks_more (entry_at (value_at (schema c.args.nodes.now c.args.child))) (length c.args.bytes.now) c.loop.counter _ c.loop.rest.now c.in_ok-count.count c.in_ok-count.after.now _ _ c.loop-test.true c.in_ok-count.ensures c.if-count-eq0.false h c.loop.invariant

pub dictionary-returns : goal.dictionary-returns
unfolding value_at
dictionary-returns t c = ap mapped (blocks_none (entry_at (value_at (schema c.args.nodes.now c.args.child))) (length c.args.bytes.now) c.loop.counter _ c.loop.rest.now _ c.loop-test.false c.loop.invariant)

pub map_items-returns-in_err-more : goal.map_items-returns-in_err-more
map_items-returns-in_err-more t c =
    let p = err_from_is_err_and c.from_residual.result c.from_residual.ensures.1 in
    rw (p.1, p.2) (items_fail (entry_at (value_at (schema c.args.nodes.now c.args.child))) c.in_err-more.field-0.0 c.args.count c.loop.counter (map entry_of c.loop.all.entries, c.loop.left) c.loop.rest.now _ c.loop-test.true c.in_err-more.ensures c.loop.invariant)

pub map_items-loop-preserved : goal.map_items-loop-preserved
map_items-loop-preserved t c = items_next (entry_at (value_at (schema c.args.nodes.now c.args.child))) c.args.count c.loop.counter _ c.loop.rest.now _ _ c.loop-test.true c.in_ok-more.ensures c.loop.invariant

pub map_items-returns : goal.map_items-returns
map_items-returns t c = items_done (entry_at (value_at (schema c.args.nodes.now c.args.child))) c.args.count c.loop.counter _ c.loop.rest.now _ c.loop-test.false c.loop.invariant

pub record-returns-in_err-tree : goal.record-returns-in_err-tree
unfolding value_at
record-returns-in_err-tree t c =
    let p = err_from_is_err_and c.from_residual.result c.from_residual.ensures.1 in
    rw (p.1, p.2) (Fails-listed c.in_err-tree.field-0.0 VFields _ (fields_fail c.in_err-tree.field-0.0 (schema c.args.nodes.now) c.args.places.now c.loop-place.place-index (map value_of c.loop-place.list.items, c.loop-place.left) c.loop-place.rest.now _ c.loop-place-test.true (Fails-element c.in_err-tree.field-0.0 (value_at (schema c.args.nodes.now (get_or c.args.places.now c.loop-place.place-index 0))) (map value_of c.loop-place.list.items, c.loop-place.left) c.loop-place.rest.now c.in_err-tree.ensures) c.loop-place.invariant))

pub record-loop-place-preserved : goal.record-loop-place-preserved
record-loop-place-preserved t c =
    let e : map value_of c.push.new.self.items ≡ map value_of c.loop-place.list.items ++ value_of c.in_ok-tree.tree ∷ [] = rw c.in_ok-push.ensures.items (map_push _ c.loop-place.list.items c.in_ok-tree.tree) in
    rw e (fields_next (schema c.args.nodes.now) c.args.places.now c.loop-place.place-index (map value_of c.loop-place.list.items, c.loop-place.left) c.loop-place.rest.now _ _ c.loop-place-test.true (element_is (value_at (schema c.args.nodes.now (get_or c.args.places.now c.loop-place.place-index 0))) (map value_of c.loop-place.list.items) c.loop-place.left c.loop-place.rest.now _ c.in_ok-tree.ensures) c.loop-place.invariant)

pub record-returns : goal.record-returns
unfolding value_at
record-returns t c = rw (value_fields, c.from_vec.ensures) (ap (listed VFields) (fields_end (schema c.args.nodes.now) c.args.places.now c.loop-place.place-index _ c.loop-place.rest.now _ c.loop-place-test.false c.loop-place.invariant))

pub union-returns-in_err-branch : goal.union-returns-in_err-branch
unfolding value_at
union-returns-in_err-branch t c =
    let p = err_from_is_err_and c.from_residual.result c.from_residual.ensures.1 in
    rw (p.1, p.2, count_is) (Fails-then c.in_err-branch.field-0.0 _ _ c.in_err-branch.ensures)

pub union-bounds-places-branch : goal.union-bounds-places-branch
union-bounds-places-branch t c = place_below (length c.args.places.now) c.args.bytes.now c.in_ok-branch.branch c.in_ok-branch.rest.now c.in_ok-branch.ensures

pub union-value-requires : goal.union-value-requires
union-value-requires t c =
    let b = place_below (length c.args.places.now) c.args.bytes.now c.in_ok-branch.branch c.in_ok-branch.rest.now c.in_ok-branch.ensures in
    let lt = all_at (λ child. child < c.args.id) c.args.places.now c.in_ok-branch.branch c.requires.below b in
    (omega arith, (c.requires.table, omega arith))

pub union-returns-in_err-tree : goal.union-returns-in_err-tree
unfolding value_at
union-returns-in_err-tree t c =
    let b = place_below (length c.args.places.now) c.args.bytes.now c.in_ok-branch.branch c.in_ok-branch.rest.now c.in_ok-branch.ensures in
    let p = err_from_is_err_and c.from_residual-in_err-tree.result c.from_residual-in_err-tree.ensures.1 in
    rw (p.1, p.2, count_is, c.in_ok-branch.ensures) (Fails-in_branch c.in_err-tree.field-0.0 c.in_ok-branch.branch _ (rw (branch_is (schema c.args.nodes.now) c.args.places.now c.in_ok-branch.branch c.args.allowed c.in_ok-branch.rest.now b) c.in_err-tree.ensures))

pub union-returns : goal.union-returns
unfolding value_at
union-returns t c =
    let b = place_below (length c.args.places.now) c.args.bytes.now c.in_ok-branch.branch c.in_ok-branch.rest.now c.in_ok-branch.ensures in
    rw (value_union, count_is, c.in_ok-branch.ensures, branch_is (schema c.args.nodes.now) c.args.places.now c.in_ok-branch.branch c.args.allowed c.in_ok-branch.rest.now b, c.in_ok-tree.ensures, c.in_ok-new.ensures.ok) refl

pub value-returns-then-allowed-eq0 : goal.value-returns-then-allowed-eq0
unfolding value_at
value-returns-then-allowed-eq0 t c = rw c.if-allowed-eq0.true refl

pub value-array-requires : goal.value-array-requires
value-array-requires t c =
    let b = below c.args.nodes.now c.requires.table c.args.id (n.Array c.in-Array.child) c.requires.there c.in-Array.is in
    (omega arith, (c.requires.table, omega arith))

pub value-record-requires : goal.value-record-requires
value-record-requires t c = (omega arith, (c.requires.table, (c.requires.there, below c.args.nodes.now c.requires.table c.args.id (n.Fields c.in-Fields.places) c.requires.there c.in-Fields.is)))

pub value-union-requires : goal.value-union-requires
value-union-requires t c = (omega arith, (c.requires.table, (c.requires.there, (below c.args.nodes.now c.requires.table c.args.id (n.Union c.in-Union.places) c.requires.there c.in-Union.is))))

pub value-leaf-requires : goal.value-leaf-requires
value-leaf-requires t c = leaf_is _ c.in_default.not-Array c.in_default.not-Map c.in_default.not-Union c.in_default.not-Fields

pub value-returns-in-Array : goal.value-returns-in-Array
value-returns-in-Array t c = rw (at_node c.args.nodes.now c.requires.table c.args.id c.args.allowed c.args.bytes.now (n.Array c.in-Array.child) c.requires.there c.in-Array.is c.if-allowed-eq0.false) c.array.ensures

pub value-returns-in-Fields : goal.value-returns-in-Fields
value-returns-in-Fields t c = rw (at_node c.args.nodes.now c.requires.table c.args.id c.args.allowed c.args.bytes.now (n.Fields c.in-Fields.places) c.requires.there c.in-Fields.is c.if-allowed-eq0.false) c.record.ensures

pub value-returns-in-Union : goal.value-returns-in-Union
value-returns-in-Union t c = rw (at_node c.args.nodes.now c.requires.table c.args.id c.args.allowed c.args.bytes.now (n.Union c.in-Union.places) c.requires.there c.in-Union.is c.if-allowed-eq0.false) c.union.ensures

pub value-returns-in_default : goal.value-returns-in_default
value-returns-in_default t c = rw (at_node c.args.nodes.now c.requires.table c.args.id c.args.allowed c.args.bytes.now _ c.requires.there refl c.if-allowed-eq0.false) (c.leaf.ensures (schema c.args.nodes.now))

pub value-dictionary-requires : goal.value-dictionary-requires
value-dictionary-requires t c =
    let b = below c.args.nodes.now c.requires.table c.args.id (n.Map c.in-Map.child) c.requires.there c.in-Map.is in
    (omega arith, (c.requires.table, omega arith))

pub value-returns-in-Map : goal.value-returns-in-Map
value-returns-in-Map t c = rw (at_node c.args.nodes.now c.requires.table c.args.id c.args.allowed c.args.bytes.now (n.Map c.in-Map.child) c.requires.there c.in-Map.is c.if-allowed-eq0.false) c.dictionary.ensures

pub entry-returns-in_err-key : goal.entry-returns-in_err-key
entry-returns-in_err-key t c =
    let p = err_from_is_err_and c.from_residual.result c.from_residual.ensures.1 in
    rw (p.1, p.2) (entry_no_key (value_at (schema c.args.nodes.now c.args.child)) (map entry_of c.args.held.entries) c.args.allowed c.args.bytes.now c.in_err-key.field-0.0 c.in_err-key.ensures)

pub entry-returns-then-contains_key : goal.entry-returns-then-contains_key
entry-returns-then-contains_key t c =
    let d : has c.in_ok-key.key.now (map entry_of c.args.held.entries) ≡ true = has_map c.in_ok-key.key.now c.args.held.entries ∙ ap (λ (k : List ℕ). has k c.args.held.entries) (sym c.in_ok-name.ensures) ∙ sym c.if-contains_key.ensures in
    entry_double (value_at (schema c.args.nodes.now c.args.child)) (map entry_of c.args.held.entries) c.args.allowed c.args.bytes.now c.in_ok-key.key.now c.in_ok-key.after.now c.in_ok-key.ensures d

pub entry-returns-in_err-tree : goal.entry-returns-in_err-tree
entry-returns-in_err-tree t c =
    let p = err_from_is_err_and c.from_residual-in_err-tree.result c.from_residual-in_err-tree.ensures.1 in
    let d : has c.in_ok-key.key.now (map entry_of c.args.held.entries) ≡ false = has_map c.in_ok-key.key.now c.args.held.entries ∙ ap (λ (k : List ℕ). has k c.args.held.entries) (sym c.in_ok-name.ensures) ∙ sym c.if-contains_key.ensures in
    rw (p.1, p.2) (entry_fails (value_at (schema c.args.nodes.now c.args.child)) (map entry_of c.args.held.entries) c.args.allowed c.args.bytes.now c.in_err-tree.field-0.0 c.in_ok-key.key.now c.in_ok-key.after.now c.in_ok-key.ensures d c.in_err-tree.ensures)

pub entry-returns : goal.entry-returns
entry-returns t c =
    let d : has c.in_ok-key.key.now (map entry_of c.args.held.entries) ≡ false = has_map c.in_ok-key.key.now c.args.held.entries ∙ ap (λ (k : List ℕ). has k c.args.held.entries) (sym c.in_ok-name.ensures) ∙ sym c.if-contains_key.ensures in
    let e : map entry_of c.insert.new.self.entries ≡ insert_entry (slice_cmp nat_cmp) (map entry_of c.args.held.entries) c.in_ok-key.key.now (value_of c.in_ok-tree.tree) =
    ap (map entry_of) c.in_ok-insert.ensures.entries ∙ insert_map c.in_ok-name.name c.in_ok-tree.tree c.args.held.entries ∙ ap (λ (k : List ℕ). insert_entry (slice_cmp nat_cmp) (map entry_of c.args.held.entries) k (value_of c.in_ok-tree.tree)) c.in_ok-name.ensures in
    rw e (entry_is (value_at (schema c.args.nodes.now c.args.child)) (map entry_of c.args.held.entries) c.args.allowed c.args.bytes.now c.in_ok-key.key.now c.in_ok-key.after.now _ c.in_ok-key.ensures d c.in_ok-tree.ensures)
