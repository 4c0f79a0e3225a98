-- A body that a row names has the schema of its place; for the crates above too.
use Rattle.std.specs.Prelude.{◌&&◌}
use Rattle.std.proofs.Common.{◌≡◌, ◌<◌, ◌∙◌, ℕ, ℤ, Bool, true, false, List, [], ◌∷◌, Option, Some, None, map, refl, sym, ap, subst, ltb, cond, get_or, arith, if◌then◌else◌}
use Rattle.std.specs.List.{AllByRecursion}
use Rattle.std.proofs.lemmas.Bool.{ltb-true}
use Rattle.avro_bin.specs.Schema.{Schema, SNull, all_below}
use Rattle.std.specs.List.{range_with_len}
use Rattle.std.proofs.lemmas.List.FromFn.{get_or-map-range_with_len}
use Rattle.etp_schema.specs.Shapes.{table_shapes, shape_at, table_size}
use Rattle.etp_schema.specs.Bodies.{BodyRow, ProtocolRow, protocols, place_of, schema_of, row_in, messages_in, body_place, body_schema, is_number}
use Rattle.etp_schema.specs.declared.body.Side.{Side}

-- the schema of each row is that of its place, which is below a number
abbrev pub RowsHold : (ℕ → Schema) → ℕ → List BodyRow → Type 0
RowsHold at size rows = (map (λ r. at r.place) rows ≡ map (λ r. r.schema) rows) × (all_below size (map (λ r. r.place) rows) ≡ true)

-- the row, if there is one, has the schema of its place, which is below a number
abbrev RowHolds : (ℕ → Schema) → ℕ → Option BodyRow → Type 0
RowHolds at size None = Unit {0}
RowHolds at size (Some r) = (r.place < size) × (at r.place ≡ r.schema)

below_parts : (size place : ℕ) (b : Bool) → cond (ltb place size) b false ≡ true → (place < size) × (b ≡ true)
below_parts size place b h = elim (ltb place size) as (λ t. ltb place size ≡ t → cond t b false ≡ true → (place < size) × (b ≡ true)) [
  | true ↦ λ e g. (ltb-true place size e, g)
  | false ↦ λ e g. absurd (let no : false ≡ true = g in cc)
] refl h

rows_hold : (at : ℕ → Schema) (size : ℕ) (rows : List BodyRow) (kind : ℤ) (side : Side) → RowsHold at size rows → RowHolds at size (row_in rows kind side)
rows_hold at size [] kind side h = tt
rows_hold at size (r ∷ rows) kind side h =
    let b = below_parts size r.place (all_below size (map (λ q. q.place) rows)) h.1 in
    let e : (at r.place) ∷ map (λ q. at q.place) rows ≡ r.schema ∷ map (λ q. q.schema) rows = h.0 in
    let here : at r.place ≡ r.schema = cc in
    let later : map (λ q. at q.place) rows ≡ map (λ q. q.schema) rows = cc in
    elim (is_number r.kind kind && r.by side) as (λ t. RowHolds at size (if t then Some r else row_in rows kind side)) [
      | true ↦ (b.0, here)
      | false ↦ rows_hold at size rows kind side (later, b.1)
    ]

messages_hold : (at : ℕ → Schema) (size : ℕ) (ps : List ProtocolRow) (protocol : ℤ) → AllByRecursion (λ p. RowsHold at size p.messages) ps → RowsHold at size (messages_in ps protocol)
messages_hold at size [] protocol h = (refl, refl)
messages_hold at size (p ∷ ps) protocol h =
    elim (is_number p.number protocol) as (λ t. RowsHold at size (if t then p.messages else messages_in ps protocol)) [
      | true ↦ h.0
      | false ↦ messages_hold at size ps protocol h.1
    ]

placed : (at : ℕ → Schema) (size : ℕ) (o : Option BodyRow) (id : ℕ) → RowHolds at size o → place_of o ≡ Some id → (id < size) × (schema_of o ≡ Some (at id))
placed at size None id h e = absurd (let no : None ≡ Some id = e in cc)
placed at size (Some r) id h e = let same : r.place ≡ id = cc in subst (λ (i : ℕ). (i < size) × (Some r.schema ≡ Some (at i))) same (h.0, ap Some (sym h.1))

shaped : AllByRecursion (λ p. RowsHold shape_at table_size p.messages) protocols
shaped = ((refl, refl), ((refl, refl), ((refl, refl), ((refl, refl), ((refl, refl), ((refl, refl), ((refl, refl), tt)))))))

pub bodies_are : (protocol kind : ℤ) (side : Side) (id : ℕ) → body_place protocol kind side ≡ Some id → (id < table_size) × (body_schema protocol kind side ≡ Some (shape_at id))
bodies_are protocol kind side id e =
    placed shape_at table_size (row_in (messages_in protocols protocol) kind side) id (rows_hold shape_at table_size (messages_in protocols protocol) kind side (messages_hold shape_at table_size protocols protocol shaped)) e

pub schemas_are : (at : ℕ → Schema) → map at (range_with_len 0 table_size) ≡ table_shapes → (id : ℕ) → id < table_size → at id ≡ shape_at id
schemas_are at e id h = sym (get_or-map-range_with_len at 0 table_size id id SNull h (omega arith)) ∙ ap (λ l. get_or l id SNull) e
