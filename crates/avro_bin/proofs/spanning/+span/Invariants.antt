use Rattle.std.proofs.Common.{◌≡◌, suc, length, map, drop, [], ◌+◌, ◌-◌, ◌*◌}
use Rattle.avro_bin.specs.Reading.{value_at, items_at, blocks_at}
use Rattle.avro_bin.specs.Along.{pass_at, put_at, mark_at, pass_fields_at}
use Rattle.avro_bin.specs.Schema.{schema, schemas}
use Rattle.avro_bin.proofs.spanning.+span.Given as goal

abbrev pub decreases-array : goal.decreases-array
decreases-array l = 6 * l.child + 6

abbrev pub decreases-block : goal.decreases-block
decreases-block l = 6 * l.child + 5

abbrev pub decreases-items : goal.decreases-items
decreases-items l = 6 * l.child + 4

abbrev pub decreases-dictionary : goal.decreases-dictionary
decreases-dictionary l = 6 * l.child + 6

abbrev pub decreases-map_block : goal.decreases-map_block
decreases-map_block l = 6 * l.child + 5

abbrev pub decreases-map_items : goal.decreases-map_items
decreases-map_items l = 6 * l.child + 4

abbrev pub decreases-entry : goal.decreases-entry
decreases-entry l = 6 * l.child + 3

abbrev pub decreases-record : goal.decreases-record
decreases-record l = 6 * l.id

abbrev pub decreases-union : goal.decreases-union
decreases-union l = 6 * l.id

abbrev pub decreases-value : goal.decreases-value
decreases-value l = 6 * l.id + 1

abbrev pub invariant-array-loop : goal.invariant-array-loop
invariant-array-loop l = blocks_at (pass_at (value_at (schema l.nodes l.child))) (suc (length l.bytes) - l.counter) l.left l.rest ≡ blocks_at (pass_at (value_at (schema l.nodes l.child))) (suc (length l.bytes)) l.allowed l.bytes

abbrev pub invariant-items-loop : goal.invariant-items-loop
invariant-items-loop l = items_at (pass_at (value_at (schema l.nodes l.child))) (l.count - l.counter) l.left l.rest ≡ items_at (pass_at (value_at (schema l.nodes l.child))) l.count l.allowed l.bytes

abbrev pub invariant-dictionary-loop : goal.invariant-dictionary-loop
invariant-dictionary-loop l = blocks_at (put_at (mark_at (value_at (schema l.nodes l.child)))) (suc (length l.bytes) - l.counter) (l.names.entries, l.left) l.rest ≡ blocks_at (put_at (mark_at (value_at (schema l.nodes l.child)))) (suc (length l.bytes)) ([], l.allowed) l.bytes

abbrev pub invariant-map_items-loop : goal.invariant-map_items-loop
invariant-map_items-loop l = items_at (put_at (mark_at (value_at (schema l.nodes l.child)))) (l.count - l.counter) (l.all.entries, l.left) l.rest ≡ items_at (put_at (mark_at (value_at (schema l.nodes l.child)))) l.count (l.fn.names.entries, l.allowed) l.bytes

abbrev pub invariant-record-loop-place : goal.invariant-record-loop-place
invariant-record-loop-place l = pass_fields_at (schemas (map (schema l.nodes) (drop l.place-index l.places))) l.left l.rest ≡ pass_fields_at (schemas (map (schema l.nodes) l.places)) l.allowed l.bytes
