-- Pieces that are written one after the other; for the crates above too.
use Rattle.std.proofs.Common.{◌≡◌, ◌∙◌, ℕ, List, ◌++◌, Result, Ok, Err, ap, append_assoc}
use Rattle.std.proofs.Transfers.{starts_with_trans, starts_with_of_append}
use Rattle.avro_bin.specs.Plain.{Writes}

-- one more piece
pub joined : (a b old mid new : List ℕ) → mid ≡ old ++ a → new ≡ mid ++ b → new ≡ old ++ (a ++ b)
joined a b old mid new front back = back ∙ ap (λ m. m ++ b) front ∙ append_assoc old a b

-- a piece that is written after another one
pub writes_after : {E : Type 0} (a b old mid new : List ℕ) (r : Result Unit E) → mid ≡ old ++ a → Writes b mid new r → Writes (a ++ b) old new r
writes_after a b old mid new (Ok x) front back = joined a b old mid new front back
writes_after a b old mid new (Err e) front back = starts_with_trans _ _ _ back (starts_with_of_append mid old a front)

pub ruleset writing = (writes_after, starts_with_trans, starts_with_of_append)
