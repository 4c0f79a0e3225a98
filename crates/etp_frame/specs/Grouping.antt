-- The items of a long message, in the groups that its parts have.
use Rattle.std.specs.Prelude.{ℕ, ◌+◌, ◌-◌, Bool, true, ◌&&◌, List, [], ◌∷◌, ◌++◌, length, nat_le, if◌then◌else◌}
use Rattle.avro_bin.specs.Plain.{plain, plain_blob}
use Rattle.avro_bin.specs.Value.{Value, nodes}
use Rattle.etp_schema.specs.Form.{Form}

-- how much of a message something takes
pub record Amount : Type 0 where
  pub bytes : ℕ
  pub nodes : ℕ

-- for the written spelling of a value
abbrev pub amount_of : Value → Amount
amount_of v = record { bytes = length (plain v); nodes = nodes v }

-- for an item of a list
abbrev pub item_amount : {A : Type 0} → Form A → A → Amount
item_amount f x = amount_of (f.as_value x)

-- for an item under its key, which is not a node
abbrev pub entry_amount : {A : Type 0} → Form A → (List ℕ × A) → Amount
entry_amount f x = record { bytes = length (plain_blob x.0) + length (plain (f.as_value x.1)); nodes = nodes (f.as_value x.1) }

-- for items together
abbrev pub total : {A : Type 0} → (A → Amount) → List A → Amount
total size [] = record { bytes = 0; nodes = 0 }
total size (x ∷ xs) = record { bytes = (size x).bytes + (total size xs).bytes; nodes = (size x).nodes + (total size xs).nodes }

-- the bytes of a message that are reserved for everything but its items
abbrev pub frame_room : ℕ
frame_room = 4096

-- the greatest number of nodes that the items of one message have
abbrev pub item_nodes : ℕ
item_nodes = 8388544

-- items of this size fit in one message of at most this many bytes
abbrev pub fits : ℕ → Amount → Bool
fits limit a = nat_le a.bytes (limit - frame_room) && nat_le a.nodes item_nodes

-- an item goes into a group that has no items yet, and into one in which it fits too
abbrev pub goes_in : {A : Type 0} → (A → Amount) → ℕ → List A → A → Bool
goes_in size limit [] x = true
goes_in size limit (h ∷ hs) x = fits limit (total size ((h ∷ hs) ++ x ∷ []))

-- The items in groups, if the items `held` are those of the group that is open: it is closed before an item that does not
-- go in.
abbrev pub groups_from : {A : Type 0} → (A → Amount) → ℕ → List A → List A → List (List A)
groups_from size limit held [] = held ∷ []
groups_from size limit held (x ∷ xs) =
    if goes_in size limit held x then groups_from size limit (held ++ x ∷ []) xs
    else held ∷ groups_from size limit (x ∷ []) xs

-- one group if there are no items
abbrev pub groups : {A : Type 0} → (A → Amount) → ℕ → List A → List (List A)
groups size limit xs = groups_from size limit [] xs
