-- Lists of which each item counts once.
use Rattle.std.specs.Prelude.{Bool, List, [], ◌∷◌, ◌++◌, fold, if◌then◌else◌}
use Rattle.std.specs.List.{list_any}

-- an item put after those before it, unless it is among them
abbrev pub with_new : {A : Type 0} → (A → A → Bool) → List A → A → List A
with_new same seen x = if list_any (same x) seen then seen else seen ++ x ∷ []

-- each item once, at its first occurrence
abbrev pub once : {A : Type 0} → (A → A → Bool) → List A → List A
once same items = fold (with_new same) [] items
