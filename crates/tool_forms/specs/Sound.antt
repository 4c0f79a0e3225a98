-- The tags of a run fit its journal.
use Rattle.std.specs.Prelude.{◌≡◌, ℕ, List, Option, None, Some}
use Rattle.store_machine.specs.Legal.{IsNext}
use Rattle.store_machine.specs.declared.journal.Entry.{Entry}
use Rattle.tool_forms.specs.Play.{World, state_of}
use Rattle.tool_forms.specs.declared.tag.TagState.{TagState}
use Rattle.tool_forms.specs.declared.tag.TagState.TheVariants.{Ended, Open}
use Rattle.tool_forms.specs.declared.tag.OpenSession.{OpenSession}

-- an open session knows how many entries are its own
pub record FitsOpen (h : List Entry) (s : OpenSession) : Type 0 where
  pub next : IsNext h s.number s.entries

-- a tag's session does so while it is open
abbrev pub FitsTag : List Entry → Option TagState → Type 0
FitsTag h None = Unit {0}
FitsTag h (Some Ended) = Unit {0}
FitsTag h (Some (Open s)) = FitsOpen h s

-- so does each of them, and no two have one number
pub record IsSound (w : World) : Type 0 where
  pub fits : (tag : ℕ) → FitsTag w.journal (state_of tag w.tags)
  pub apart : (tag other : ℕ) (s t : OpenSession) → state_of tag w.tags ≡ Some (Open s) → state_of other w.tags ≡ Some (Open t) → s.number ≡ t.number → tag ≡ other
