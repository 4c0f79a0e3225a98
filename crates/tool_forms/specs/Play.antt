-- What one thread makes of a capture's frames, one after the other.
use Rattle.std.specs.Prelude.{ℕ, ◌+◌, Bool, true, false, List, [], ◌∷◌, ◌++◌, ◌==◌, ◌||◌, length, Option, None, Some}
use Rattle.std.specs.Ordering.{nat_cmp}
use Rattle.std.specs.Map.{lookup}
use Rattle.std.specs.BTreeMap.{is_at, insert_entry}
use Rattle.etp_capture.specs.Kinds.{kind_out, kind_ended}
use Rattle.etp_capture.specs.declared.frame.Frame.{Frame}
use Rattle.server_config.specs.declared.config.Config.{Config}
use Rattle.store_machine.specs.Legal.{door}
use Rattle.store_machine.specs.declared.journal.Entry.{Entry}
use Rattle.tool_forms.specs.Turns.{Effect, effect_at}
use Rattle.tool_forms.specs.declared.tag.TagState.{TagState}
use Rattle.tool_forms.specs.declared.tag.TagState.TheVariants.{Ended, Open}

-- the store's configuration and journal, and the states of the tags that have come
pub record World : Type 0 where
  pub config : Config
  pub journal : List Entry
  pub tags : List (ℕ × TagState)

-- a new store, and no tag
abbrev pub first_world : Config → World
first_world c = record { config = c; journal = door ∷ []; tags = [] }

-- the state of a tag, which a new tag does not have
abbrev pub state_of : ℕ → List (ℕ × TagState) → Option TagState
state_of tag tags = lookup (is_at (nat_cmp tag)) tags

-- a tag's state is put among the others, in the order of tags
abbrev pub with_tag : ℕ → TagState → List (ℕ × TagState) → List (ℕ × TagState)
with_tag tag state tags = insert_entry nat_cmp tags tag state

-- a session that has ended, or that could not enter
abbrev pub has_ended : Option TagState → Bool
has_ended None = false
has_ended (Some Ended) = true
has_ended (Some (Open s)) = false

-- what a frame does
abbrev pub effect : World → Frame → Effect
effect w f = effect_at w.config w.journal f (state_of f.tag w.tags)

-- a frame that is refused: one of a server, or one that follows its session's end
abbrev pub is_refused : World → Frame → Bool
is_refused w f = f.kind == kind_out || f.kind == kind_ended || has_ended (state_of f.tag w.tags)

-- the world after what a frame of this tag did
abbrev pub world_with : World → ℕ → Effect → World
world_with w tag e = record { config = w.config; journal = e.journal; tags = with_tag tag e.tag w.tags }

-- the world after a frame
abbrev pub world_after : World → Frame → World
world_after w f = world_with w f.tag (effect w f)

-- a run so far: the offset after the frames that were played, the frames that answer them, and the offset of the frame that was refused
pub record Played : Type 0 where
  pub world : World
  pub at : ℕ
  pub answers : List Frame
  pub refused : Option ℕ

-- a run over no frames
abbrev pub first : Config → Played
first c = record { world = first_world c; at = 8; answers = []; refused = None }

-- one more frame, refused or not
abbrev pub next_played : Played → Bool → Frame → Played
next_played p true f = record { world = p.world; at = p.at; answers = p.answers; refused = Some p.at }
next_played p false f = record { world = world_after p.world f; at = p.at + (17 + length f.bytes); answers = p.answers ++ (effect p.world f).answers; refused = None }

-- after a refused frame nothing happens
abbrev pub happens_to : Option ℕ → Played → Frame → Played
happens_to (Some o) p f = p
happens_to None p f = next_played p (is_refused p.world f) f

-- one more frame
abbrev pub happens : Played → Frame → Played
happens p f = happens_to p.refused p f

-- these frames, one after the other
abbrev pub play_from : Played → List Frame → Played
play_from p [] = p
play_from p (f ∷ fs) = play_from (happens p f) fs

-- the run of a whole capture
abbrev pub play : Config → List Frame → Played
play c fs = play_from (first c) fs
