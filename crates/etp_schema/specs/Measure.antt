-- How much of a message a value takes: the bytes of its written spelling, and its nodes. Both stop at the greatest 64-bit number.
use Rattle.std.specs.Prelude.{ℕ, zero, suc, pos, ◌+◌, ◌-◌, ◌^◌, min, length}
use Rattle.avro_bin.specs.Number.{plain_number}
use Rattle.avro_bin.specs.Plain.{plain, plain_blob}
use Rattle.avro_bin.specs.Value.{Value, Values, VNull, VBoolean, VInt, VLong, VFloat, VDouble, VBytes, VText, VFixed, VEnum, VArray, VMap, VUnion, VFields, Entries, none, more, none_named, more_named, list, pairs, nodes}
use Rattle.etp_schema.specs.declared.measure.Measure.{Measure}

abbrev pub most : ℕ
most = 2 ^ 64 - 1

-- both together
abbrev pub adds : Measure → Measure → Measure
adds a b = record { bytes = min (a.bytes + b.bytes) most; nodes = min (a.nodes + b.nodes) most }

-- this many bytes in this many nodes
abbrev pub takes : ℕ → ℕ → Measure
takes bytes nodes = record { bytes = min bytes most; nodes = nodes }

-- the node of a list or a map, and the counts around this many items
abbrev pub counts : ℕ → Measure
counts zero = takes 1 1
counts (suc k) = takes (length (plain_number (pos (suc k))) + 1) 1

-- for a value, part by part
abbrev mutual
  pub measured : Value → Measure
  measured VNull = takes 0 1
  measured (VBoolean b) = takes 1 1
  measured (VInt x) = takes (length (plain_number x)) 1
  measured (VLong x) = takes (length (plain_number x)) 1
  measured (VFloat n) = takes 4 1
  measured (VDouble n) = takes 8 1
  measured (VBytes b) = takes (length (plain_blob b)) 1
  measured (VText b) = takes (length (plain_blob b)) 1
  measured (VFixed b) = takes (length b) 1
  measured (VEnum p) = takes (length (plain_number (pos p))) 1
  measured (VArray vs) = measured_behind (counts (length (list vs))) vs
  measured (VMap es) = measured_named (counts (length (pairs es))) es
  measured (VUnion p v) = adds (takes (length (plain_number (pos p))) 1) (measured v)
  measured (VFields vs) = measured_behind (takes 0 1) vs

  -- the measure of these values, added to a given one
  pub measured_behind : Measure → Values → Measure
  measured_behind m none = m
  measured_behind m (more v vs) = measured_behind (adds m (measured v)) vs

  -- the measure of these names and values, added to a given one
  pub measured_named : Measure → Entries → Measure
  measured_named m none_named = m
  measured_named m (more_named n v es) = measured_named (adds (adds m (takes (length (plain_blob n)) 0)) (measured v)) es

-- the same in one step
abbrev pub size_of : Value → Measure
size_of v = record { bytes = min (length (plain v)) most; nodes = min (nodes v) most }
