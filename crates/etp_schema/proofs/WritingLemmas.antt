-- Pieces that are written one after the other.
use Rattle.std.proofs.Common.{◌≡◌, ℕ, List, ◌++◌}
use Rattle.std.specs.Io.{StartsWith}
use Rattle.std.proofs.Transfers.{starts_with_trans, starts_with_of_append}

-- what came before a piece is still before what was written of the next one
pub grown : (piece old mid new : List ℕ) → mid ≡ old ++ piece → StartsWith new mid → StartsWith new old
grown piece old mid new e h = starts_with_trans _ _ _ h (starts_with_of_append mid old piece e)
