use Rattle.std.proofs.Common.{◌≡◌, length, ◌<◌, List, ℕ, Bor, true, false, refl, ap, sym, ◌∙◌, arith, rules, FitsSigned, w64, of_z, to_z, to_z-of_z}
use Rattle.std.proofs.lemmas.Result.{err_from_is_err_and}
use Rattle.std.specs.Ordering.{nat_cmp}
use Rattle.std.specs.Cmp.Lexicographic.{slice_cmp}
use Rattle.std.specs.BTreeMap.{insert_entry}
use Rattle.avro_bin.specs.Reading.{value_at, has}
use Rattle.avro_bin.specs.Along.{pass_at, put_at, mark_at}
use Rattle.avro_bin.specs.Schema.{schema}
use Rattle.avro_bin.specs.declared.schema.Node.TheVariants as n
use Rattle.avro_bin.proofs.SchemaLemmas.{below, leaf_is}
use Rattle.avro_bin.proofs.StepLemmas.{items_next, items_fail, items_done, blocks_stop, blocks_more, blocks_ends, blocks_none, blocks_fail, is_zero, all_at, place_below}
use Rattle.avro_bin.proofs.AlongLemmas.{pass_array, pass_map, pass_record}
use Rattle.avro_bin.proofs.PassingLemmas.{Fails-along, Fails-again, pass_zero, pass_node, union_fails, union_goes, put_no_key, put_double, put_fails, put_is, mark_is, pass_next, pass_fail, pass_end}
use Rattle.avro_bin.proofs.spanning.+span.Goals as goal

pub array-returns-in_err-count : goal.array-returns-in_err-count
array-returns-in_err-count t c =
    let p = err_from_is_err_and c.from_residual.result c.from_residual.ensures.1 in
    rw (p.1, p.2, pass_array) (blocks_ends (pass_at (value_at (schema c.args.nodes.now c.args.child))) c.in_err-count.field-0.0 (length c.args.bytes.now) c.loop.counter _ c.loop.rest.now _ c.loop-test.true c.in_err-count.ensures c.loop.invariant)

pub array-returns-then-count-eq0 : goal.array-returns-then-count-eq0
array-returns-then-count-eq0 t c =
    let f : FitsSigned w64 c.in_ok-count.count = search rules in
    rw pass_array (blocks_stop (pass_at (value_at (schema c.args.nodes.now c.args.child))) (length c.args.bytes.now) c.loop.counter _ c.loop.rest.now c.in_ok-count.count c.in_ok-count.after.now _ c.loop-test.true c.in_ok-count.ensures (is_zero c.in_ok-count.count f c.if-count-eq0.true) c.loop.invariant)

pub array-returns-in_err-after_left : goal.array-returns-in_err-after_left
array-returns-in_err-after_left t c =
    let p = err_from_is_err_and c.from_residual-in_err-after_left.result c.from_residual-in_err-after_left.ensures.1 in
    let f : FitsSigned w64 c.in_ok-count.count = search rules in let same : to_z w64 (of_z w64 c.in_ok-count.count) ≡ c.in_ok-count.count = to_z-of_z f in
    let h = rw same at c.in_err-after_left.ensures in
    rw (p.1, p.2, pass_array) (blocks_fail (pass_at (value_at (schema c.args.nodes.now c.args.child))) c.in_err-after_left.field-0.0 (length c.args.bytes.now) c.loop.counter _ c.loop.rest.now c.in_ok-count.count c.in_ok-count.after.now _ c.loop-test.true c.in_ok-count.ensures c.if-count-eq0.false h c.loop.invariant)

pub array-loop-preserved : goal.array-loop-preserved
array-loop-preserved t c =
    let f : FitsSigned w64 c.in_ok-count.count = search rules in let same : to_z w64 (of_z w64 c.in_ok-count.count) ≡ c.in_ok-count.count = to_z-of_z f in
    let h = rw same at c.in_ok-after_left.ensures in
    blocks_more (pass_at (value_at (schema c.args.nodes.now c.args.child))) (length c.args.bytes.now) c.loop.counter _ c.loop.rest.now c.in_ok-count.count c.in_ok-count.after.now _ _ c.loop-test.true c.in_ok-count.ensures c.if-count-eq0.false h c.loop.invariant

pub array-returns : goal.array-returns
array-returns t c = rw pass_array (blocks_none (pass_at (value_at (schema c.args.nodes.now c.args.child))) (length c.args.bytes.now) c.loop.counter _ c.loop.rest.now _ c.loop-test.false c.loop.invariant)

pub items-returns-in_err-after_left : goal.items-returns-in_err-after_left
items-returns-in_err-after_left t c =
    let p = err_from_is_err_and c.from_residual.result c.from_residual.ensures.1 in
    rw (p.1, p.2) (items_fail (pass_at (value_at (schema c.args.nodes.now c.args.child))) c.in_err-after_left.field-0.0 c.args.count c.loop.counter _ c.loop.rest.now _ c.loop-test.true c.in_err-after_left.ensures c.loop.invariant)

pub items-loop-preserved : goal.items-loop-preserved
items-loop-preserved t c = items_next (pass_at (value_at (schema c.args.nodes.now c.args.child))) c.args.count c.loop.counter _ c.loop.rest.now _ _ c.loop-test.true c.in_ok-after_left.ensures c.loop.invariant

pub items-returns : goal.items-returns
items-returns t c = items_done (pass_at (value_at (schema c.args.nodes.now c.args.child))) c.args.count c.loop.counter _ c.loop.rest.now _ c.loop-test.false c.loop.invariant

pub dictionary-returns-in_err-count : goal.dictionary-returns-in_err-count
dictionary-returns-in_err-count t c =
    let p = err_from_is_err_and c.from_residual.result c.from_residual.ensures.1 in
    rw (p.1, p.2, pass_map) (Fails-along c.in_err-count.field-0.0 (λ s. s.1) _ (blocks_ends (put_at (mark_at (value_at (schema c.args.nodes.now c.args.child)))) c.in_err-count.field-0.0 (length c.args.bytes.now) c.loop.counter _ c.loop.rest.now _ c.loop-test.true c.in_err-count.ensures c.loop.invariant))

pub dictionary-returns-then-count-eq0 : goal.dictionary-returns-then-count-eq0
dictionary-returns-then-count-eq0 t c =
    let f : FitsSigned w64 c.in_ok-count.count = search rules in
    rw (pass_map, blocks_stop (put_at (mark_at (value_at (schema c.args.nodes.now c.args.child)))) (length c.args.bytes.now) c.loop.counter _ c.loop.rest.now c.in_ok-count.count c.in_ok-count.after.now _ c.loop-test.true c.in_ok-count.ensures (is_zero c.in_ok-count.count f c.if-count-eq0.true) c.loop.invariant) refl

pub dictionary-returns-in_err-more : goal.dictionary-returns-in_err-more
dictionary-returns-in_err-more t c =
    let p = err_from_is_err_and c.from_residual-in_err-more.result c.from_residual-in_err-more.ensures.1 in
    let f : FitsSigned w64 c.in_ok-count.count = search rules in let same : to_z w64 (of_z w64 c.in_ok-count.count) ≡ c.in_ok-count.count = to_z-of_z f in
    let h = rw same at c.in_err-more.ensures in
    rw (p.1, p.2, pass_map) (Fails-along c.in_err-more.field-0.0 (λ s. s.1) _ (blocks_fail (put_at (mark_at (value_at (schema c.args.nodes.now c.args.child)))) c.in_err-more.field-0.0 (length c.args.bytes.now) c.loop.counter _ c.loop.rest.now c.in_ok-count.count c.in_ok-count.after.now _ c.loop-test.true c.in_ok-count.ensures c.if-count-eq0.false h c.loop.invariant))

pub dictionary-loop-preserved : goal.dictionary-loop-preserved
dictionary-loop-preserved t c =
    let f : FitsSigned w64 c.in_ok-count.count = search rules in let same : to_z w64 (of_z w64 c.in_ok-count.count) ≡ c.in_ok-count.count = to_z-of_z f in
    let h = rw same at c.in_ok-more.ensures in
    blocks_more (put_at (mark_at (value_at (schema c.args.nodes.now c.args.child)))) (length c.args.bytes.now) c.loop.counter _ c.loop.rest.now c.in_ok-count.count c.in_ok-count.after.now _ _ c.loop-test.true c.in_ok-count.ensures c.if-count-eq0.false h c.loop.invariant

pub dictionary-returns : goal.dictionary-returns
dictionary-returns t c = rw (pass_map, blocks_none (put_at (mark_at (value_at (schema c.args.nodes.now c.args.child)))) (length c.args.bytes.now) c.loop.counter _ c.loop.rest.now _ c.loop-test.false c.loop.invariant) refl

pub map_items-returns-in_err-more : goal.map_items-returns-in_err-more
map_items-returns-in_err-more t c =
    let p = err_from_is_err_and c.from_residual.result c.from_residual.ensures.1 in
    rw (p.1, p.2) (items_fail (put_at (mark_at (value_at (schema c.args.nodes.now c.args.child)))) c.in_err-more.field-0.0 c.args.count c.loop.counter _ c.loop.rest.now _ c.loop-test.true c.in_err-more.ensures c.loop.invariant)

pub map_items-loop-preserved : goal.map_items-loop-preserved
map_items-loop-preserved t c = items_next (put_at (mark_at (value_at (schema c.args.nodes.now c.args.child)))) c.args.count c.loop.counter _ c.loop.rest.now _ _ c.loop-test.true c.in_ok-more.ensures c.loop.invariant

pub map_items-returns : goal.map_items-returns
map_items-returns t c = items_done (put_at (mark_at (value_at (schema c.args.nodes.now c.args.child)))) c.args.count c.loop.counter _ c.loop.rest.now _ c.loop-test.false c.loop.invariant

pub record-returns-in_err-after_left : goal.record-returns-in_err-after_left
record-returns-in_err-after_left t c =
    let p = err_from_is_err_and c.from_residual.result c.from_residual.ensures.1 in
    rw (p.1, p.2, pass_record) (pass_fail c.in_err-after_left.field-0.0 (schema c.args.nodes.now) c.args.places.now c.loop-place.place-index c.loop-place.left c.loop-place.rest.now _ c.loop-place-test.true c.in_err-after_left.ensures c.loop-place.invariant)

pub record-loop-place-preserved : goal.record-loop-place-preserved
record-loop-place-preserved t c = pass_next (schema c.args.nodes.now) c.args.places.now c.loop-place.place-index c.loop-place.left c.loop-place.rest.now _ _ c.loop-place-test.true c.in_ok-after_left.ensures c.loop-place.invariant

pub record-returns : goal.record-returns
record-returns t c = rw pass_record (pass_end (schema c.args.nodes.now) c.args.places.now c.loop-place.place-index _ c.loop-place.rest.now _ c.loop-place-test.false c.loop-place.invariant)

pub union-returns-in_err-branch : goal.union-returns-in_err-branch
union-returns-in_err-branch t c =
    let p = err_from_is_err_and c.from_residual.result c.from_residual.ensures.1 in
    rw (p.1, p.2) (union_fails (schema c.args.nodes.now) c.args.places.now c.args.allowed c.args.bytes.now c.in_err-branch.field-0.0 c.in_err-branch.ensures)

pub union-bounds-places-branch : goal.union-bounds-places-branch
union-bounds-places-branch t c = place_below (length c.args.places.now) c.args.bytes.now c.in_ok-branch.branch c.in_ok-branch.rest.now c.in_ok-branch.ensures

pub union-value-requires : goal.union-value-requires
union-value-requires t c =
    let b = place_below (length c.args.places.now) c.args.bytes.now c.in_ok-branch.branch c.in_ok-branch.rest.now c.in_ok-branch.ensures in
    let lt = all_at (λ child. child < c.args.id) c.args.places.now c.in_ok-branch.branch c.requires.below b in
    (omega arith, (c.requires.table, omega arith))

pub union-returns : goal.union-returns
union-returns t c = union_goes (schema c.args.nodes.now) c.args.places.now c.args.allowed c.args.bytes.now c.in_ok-branch.branch c.in_ok-branch.rest.now (λ (x : ℕ × Bor (List ℕ)). (x.0, x.1.now)) _ c.in_ok-branch.ensures c.value.ensures

pub value-returns-then-allowed-eq0 : goal.value-returns-then-allowed-eq0
value-returns-then-allowed-eq0 t c = rw c.if-allowed-eq0.true (pass_zero (schema c.args.nodes.now c.args.id) c.args.bytes.now)

pub value-array-requires : goal.value-array-requires
value-array-requires t c =
    let b = below c.args.nodes.now c.requires.table c.args.id (n.Array c.in-Array.child) c.requires.there c.in-Array.is in
    (omega arith, (c.requires.table, omega arith))

pub value-record-requires : goal.value-record-requires
value-record-requires t c = (omega arith, (c.requires.table, (c.requires.there, below c.args.nodes.now c.requires.table c.args.id (n.Fields c.in-Fields.places) c.requires.there c.in-Fields.is)))

pub value-union-requires : goal.value-union-requires
value-union-requires t c = (omega arith, (c.requires.table, (c.requires.there, (below c.args.nodes.now c.requires.table c.args.id (n.Union c.in-Union.places) c.requires.there c.in-Union.is))))

pub value-leaf-requires : goal.value-leaf-requires
value-leaf-requires t c = leaf_is _ c.in_default.not-Array c.in_default.not-Map c.in_default.not-Union c.in_default.not-Fields

pub value-returns-in-Array : goal.value-returns-in-Array
value-returns-in-Array t c = rw (pass_node c.args.nodes.now c.requires.table c.args.id c.args.allowed c.args.bytes.now (n.Array c.in-Array.child) c.requires.there c.in-Array.is c.if-allowed-eq0.false) c.array.ensures

pub value-returns-in-Fields : goal.value-returns-in-Fields
value-returns-in-Fields t c = rw (pass_node c.args.nodes.now c.requires.table c.args.id c.args.allowed c.args.bytes.now (n.Fields c.in-Fields.places) c.requires.there c.in-Fields.is c.if-allowed-eq0.false) c.record.ensures

pub value-returns-in-Union : goal.value-returns-in-Union
value-returns-in-Union t c = rw (pass_node c.args.nodes.now c.requires.table c.args.id c.args.allowed c.args.bytes.now (n.Union c.in-Union.places) c.requires.there c.in-Union.is c.if-allowed-eq0.false) c.union.ensures

pub value-returns-in_default : goal.value-returns-in_default
value-returns-in_default t c = rw (pass_node c.args.nodes.now c.requires.table c.args.id c.args.allowed c.args.bytes.now _ c.requires.there refl c.if-allowed-eq0.false) (c.leaf.ensures (schema c.args.nodes.now))

pub value-dictionary-requires : goal.value-dictionary-requires
value-dictionary-requires t c =
    let b = below c.args.nodes.now c.requires.table c.args.id (n.Map c.in-Map.child) c.requires.there c.in-Map.is in
    (omega arith, (c.requires.table, omega arith))

pub value-returns-in-Map : goal.value-returns-in-Map
value-returns-in-Map t c = rw (pass_node c.args.nodes.now c.requires.table c.args.id c.args.allowed c.args.bytes.now (n.Map c.in-Map.child) c.requires.there c.in-Map.is c.if-allowed-eq0.false) c.dictionary.ensures

pub entry-returns-in_err-key : goal.entry-returns-in_err-key
entry-returns-in_err-key t c =
    let p = err_from_is_err_and c.from_residual.result c.from_residual.ensures.1 in
    rw (p.1, p.2) (put_no_key (mark_at (value_at (schema c.args.nodes.now c.args.child))) c.args.names.entries c.args.allowed c.args.bytes.now c.in_err-key.field-0.0 c.in_err-key.ensures)

pub entry-returns-then-contains_key : goal.entry-returns-then-contains_key
entry-returns-then-contains_key t c =
    let d : has c.in_ok-key.key.now c.args.names.entries ≡ true = ap (λ (k : List ℕ). has k c.args.names.entries) (sym c.in_ok-name.ensures) ∙ sym c.if-contains_key.ensures in
    put_double (mark_at (value_at (schema c.args.nodes.now c.args.child))) c.args.names.entries c.args.allowed c.args.bytes.now c.in_ok-key.key.now c.in_ok-key.after.now c.in_ok-key.ensures d

pub entry-returns-in_err-left : goal.entry-returns-in_err-left
entry-returns-in_err-left t c =
    let p = err_from_is_err_and c.from_residual-in_err-left.result c.from_residual-in_err-left.ensures.1 in
    let d : has c.in_ok-key.key.now c.args.names.entries ≡ false = ap (λ (k : List ℕ). has k c.args.names.entries) (sym c.in_ok-name.ensures) ∙ sym c.if-contains_key.ensures in
    rw (p.1, p.2) (put_fails (mark_at (value_at (schema c.args.nodes.now c.args.child))) c.args.names.entries c.args.allowed c.args.bytes.now c.in_err-left.field-0.0 c.in_ok-key.key.now c.in_ok-key.after.now c.in_ok-key.ensures d (Fails-again (value_at (schema c.args.nodes.now c.args.child)) c.args.allowed c.in_ok-key.after.now c.in_err-left.field-0.0 c.in_err-left.ensures))

pub entry-returns : goal.entry-returns
entry-returns t c =
    let d : has c.in_ok-key.key.now c.args.names.entries ≡ false = ap (λ (k : List ℕ). has k c.args.names.entries) (sym c.in_ok-name.ensures) ∙ sym c.if-contains_key.ensures in
    let e = c.in_ok-insert.ensures.entries ∙ ap (λ (k : List ℕ). insert_entry (slice_cmp nat_cmp) c.args.names.entries k tt) c.in_ok-name.ensures in
    rw e (put_is (mark_at (value_at (schema c.args.nodes.now c.args.child))) c.args.names.entries c.args.allowed c.args.bytes.now c.in_ok-key.key.now c.in_ok-key.after.now _ c.in_ok-key.ensures d (mark_is (value_at (schema c.args.nodes.now c.args.child)) c.args.allowed c.in_ok-key.after.now _ _ c.in_ok-left.ensures))
