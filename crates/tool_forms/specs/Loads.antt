-- A load while it is played.
use Rattle.std.specs.Prelude.{◌≡◌, Bool}
use Rattle.load_forms.specs.Tally.{tally}
use Rattle.load_forms.specs.declared.tally.Tally.{Tally}
use Rattle.tool_forms.specs.Play.{World, Played}
use Rattle.tool_forms.specs.Replay.{is_none}

-- a run has left this world, this much was counted of what answers its frames, and it continues, or one of them was refused
pub record IsAt (p : Played) (goes : Bool) (w : World) (t : Tally) : Type 0 where
  pub world_is : p.world ≡ w
  pub tally_is : t ≡ tally p.answers
  pub goes_is : is_none p.refused ≡ goes

-- the same for a run that may or may not continue
abbrev pub CameTo : Played → World → Tally → Type 0
CameTo p w t = IsAt p (is_none p.refused) w t
