-- What the code knows about where a command is, in the words of the definitions.
use Rattle.std.specs.Prelude.{◌≡◌, ℕ, ℤ, Bool, true, false, List, Option, None, Some, Result, Ok, Err}
use Rattle.std.specs.Io.KnownBytes.{IsAtEnd}
use Rattle.etp_values.specs.declared.uri.StoreUri.{StoreUri}
use Rattle.etp_outside.specs.declared.status.Status.TheVariants.{Limit}
use Rattle.client_forms.specs.Ctl.{Job, Putting, Getting, Loading, Watching, Pinging, Listing, Ranging, Deleting, Following, Stage, Opening, Asked, Ranged, Followed}
use Rattle.client_forms.specs.declared.action.Action.{Action}
use Rattle.client_forms.specs.declared.action.Action.TheVariants as action
use Rattle.client_forms.specs.declared.following.FollowStage.{FollowStage}
use Rattle.client_forms.specs.declared.following.FollowStage.TheVariants as follow
use Rattle.client_forms.specs.declared.ranging.RangeStage.{RangeStage}
use Rattle.client_forms.specs.declared.ranging.RangeStage.TheVariants as range
use Rattle.client_forms.specs.declared.stop.Cause.TheVariants as cause
use Rattle.client_forms.specs.declared.stop.Stop.{Stop}
use Rattle.client_forms.specs.declared.stop.Stop.TheVariants as stop

-- the stage of a command that asks for one thing, by whether it has asked
abbrev pub stage_of : Bool → Stage
stage_of false = Opening
stage_of true = Asked

-- what a command that was done has read of the input: to load, all of it
abbrev pub HasRead : Job → Option (List ℕ) → Type 0
HasRead (Putting u bytes) left = Unit {0}
HasRead (Getting u) left = Unit {0}
HasRead (Loading u lines) left = IsAtEnd left
HasRead (Watching u count) left = Unit {0}
HasRead Pinging left = Unit {0}
HasRead Listing left = Unit {0}
HasRead (Ranging u from to) left = Unit {0}
HasRead (Deleting u) left = Unit {0}
HasRead (Following u start) left = Unit {0}

-- a command to put, or to get
pub record IsPut (u : StoreUri) (bytes : List ℕ) (asked : Bool) (job : Job) (stage : Stage) : Type 0 where
  pub job_is : job ≡ Putting u bytes
  pub stage_is : stage ≡ stage_of asked

pub record IsGet (u : StoreUri) (asked : Bool) (job : Job) (stage : Stage) : Type 0 where
  pub job_is : job ≡ Getting u
  pub stage_is : stage ≡ stage_of asked

-- a command to ping, to list dataspaces, or to delete
pub record IsPing (asked : Bool) (job : Job) (stage : Stage) : Type 0 where
  pub job_is : job ≡ Pinging
  pub stage_is : stage ≡ stage_of asked

pub record IsList (asked : Bool) (job : Job) (stage : Stage) : Type 0 where
  pub job_is : job ≡ Listing
  pub stage_is : stage ≡ stage_of asked

pub record IsDelete (u : StoreUri) (asked : Bool) (job : Job) (stage : Stage) : Type 0 where
  pub job_is : job ≡ Deleting u
  pub stage_is : stage ≡ stage_of asked

-- ---- an interval

-- the stage of a command that writes the points of an interval of a channel of this kind
abbrev pub range_stage : RangeStage → ℕ → Stage
range_stage range.Opening kind = Opening
range_stage range.Asked kind = Asked
range_stage range.Ranged kind = Ranged kind

pub record IsRange (u : StoreUri) (from to : ℤ) (now : RangeStage) (kind : ℕ) (job : Job) (stage : Stage) : Type 0 where
  pub job_is : job ≡ Ranging u from to
  pub stage_is : stage ≡ range_stage now kind

-- what is wanted with lines, if there are any, or running out of memory
abbrev pub GivesLines : Result Action Stop → Option (List ℕ) → Type 0
GivesLines (Ok a) (Some text) = a ≡ action.Report text
GivesLines (Ok a) None = ⊥
GivesLines (Err (stop.Over Limit)) None = Unit {0}
GivesLines (Err (stop.Cut cause.Memory)) text = Unit {0}
GivesLines (Err e) text = ⊥

-- ---- changes

-- the stage of a command that writes changes
abbrev pub follow_stage : FollowStage → Stage
follow_stage follow.Opening = Opening
follow_stage follow.Asked = Asked
follow_stage follow.Followed = Followed

pub record IsFollow (u : StoreUri) (start : ℤ) (now : FollowStage) (job : Job) (stage : Stage) : Type 0 where
  pub job_is : job ≡ Following u start
  pub stage_is : stage ≡ follow_stage now
