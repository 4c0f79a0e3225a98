-- A point after the last run.
use Rattle.std.specs.Prelude.{◌≡◌, List, [], ◌∷◌, ◌++◌, refl}
use Rattle.std.proofs.Common.{ap}
use Rattle.etp_values.specs.declared.point.ChannelPoint.{ChannelPoint}
use Rattle.client_parts.specs.Changes.{behind, with_point}
use Rattle.client_parts.specs.declared.changes.Run.{Run}

pub with_last : (front : List Run) (last : Run) (p : ChannelPoint) → with_point (front ++ last ∷ []) p ≡ front ++ behind last p
with_last [] last p = refl
with_last (r ∷ []) last p = refl
with_last (r ∷ s ∷ rs) last p = ap (λ l. r ∷ l) (with_last (s ∷ rs) last p)
