-- What a generator gave, by cases, for the crates above.
use Rattle.std.proofs.Common.{◌≡◌, List, [], ◌∷◌, subst, Option, None, Some, Ok}
use Rattle.etp_capture.specs.declared.frame.Frame.{Frame}
use Rattle.generator.specs.Generator.{Gives}

-- nothing, since nothing is left
pub none_given : (given : Option (Frame × Frame)) (old new : List Frame) → given ≡ None → Gives (Ok given) old new → old ≡ []
none_given given old new is gives = (subst (λ (x : Option (Frame × Frame)). Gives (Ok x) old new) is gives).0

-- the two that are first
pub two_given : (given : Option (Frame × Frame)) (two : Frame × Frame) (old new : List Frame) → given ≡ Some two → Gives (Ok given) old new → old ≡ two.0 ∷ two.1 ∷ new
two_given given two old new is gives = subst (λ (x : Option (Frame × Frame)). Gives (Ok x) old new) is gives
