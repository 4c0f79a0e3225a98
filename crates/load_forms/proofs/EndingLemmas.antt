-- What a step that may end says about each.
use Rattle.std.proofs.Common.{◌≡◌, ℕ, ◌<◌, List, ◌∷◌, length, refl, ap, arith, Option, None, Some, IfNone, IfSome}
use Rattle.etp_capture.specs.declared.frame.Frame.{Frame}
use Rattle.gathered_text.specs.Writing.{Going, Writes, GoesOn}
use Rattle.gathered_text.specs.declared.writing.Wrote.{Wrote}
use Rattle.gathered_text.specs.declared.writing.Wrote.TheVariants.{Whole, WriteFault, NoMemory}
use Rattle.load_forms.specs.Writing.{unless_whole}

-- two frames fewer are left
pub fewer : (end : Option Wrote) (a b : Frame) (old new : List Frame) → old ≡ a ∷ b ∷ new → IfNone end (length new < length old)
fewer None a b old new is = let longer : length old ≡ length (a ∷ b ∷ new) = ap length is in omega (arith, longer)
fewer (Some end) a b old new is = tt

module _ (old new all rest : List ℕ) (h k : Option (List ℕ)) where
  abbrev Steps : Wrote → Type 0
  Steps wrote = (whole : List ℕ) (before : Option (List ℕ)) → Going whole old all before h → GoesOn wrote whole new rest before k

  pub goes_on : (wrote : Wrote) → Steps wrote
      → IfNone (unless_whole wrote) ((whole : List ℕ) (before : Option (List ℕ)) → Going whole old all before h → Going whole new rest before k)
  goes_on Whole step = step
  goes_on WriteFault step = tt
  goes_on NoMemory step = tt

  pub ends : (wrote : Wrote) → Steps wrote
      → IfSome (unless_whole wrote) (λ e. (whole : List ℕ) (before : Option (List ℕ)) → Going whole old all before h → Writes e whole before k)
  ends Whole step = tt
  ends WriteFault step = step
  ends NoMemory step = step

-- a fault of what it ends with is one of the step
pub fault_of : (wrote : Wrote) → unless_whole wrote ≡ Some WriteFault → wrote ≡ WriteFault
fault_of Whole is = (cc)
fault_of WriteFault is = refl
fault_of NoMemory is = (cc)
