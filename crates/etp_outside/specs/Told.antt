-- Facts about a content that an object may or may not reveal.
use Rattle.std.specs.Prelude.{⊤, None, Some}
use Rattle.std.specs.declared.option.Option.{Option}

-- a fact about the content before and after, if it is revealed; what revealed its content still does
abbrev pub Told : {X : Type 0} → Option X → Option X → (X → X → Type 0) → Type 0
Told None new P = ⊤
Told (Some x) None P = ⊥
Told (Some x) (Some y) P = P x y
