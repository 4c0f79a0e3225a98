-- What a store keeps besides its journal: the counted bytes, the tables of the present state, the channels, and which entries altered which
-- keys.
use Rattle.std.specs.Prelude.{ℕ, ◌≡◌, ◌≤◌, List, [], ◌∷◌, ◌++◌, Option, find, if◌then◌else◌, filter, fold, map}
use Rattle.std.specs.List.Sorted.{IsStrictlySortedBy}
use Rattle.std.specs.Cmp.Lexicographic.{slice_cmp}
use Rattle.std.specs.Map.{values_of}
use Rattle.std.specs.Option.{option_map}
use Rattle.std.specs.Ordering.{nat_cmp}
use Rattle.std.specs.Str.{bytes_eq}
use Rattle.server_config.specs.declared.config.Config.{Config}
use Rattle.channel_store.specs.Channels.{Channel}
use Rattle.object_store.specs.declared.records.SpaceRecord.{SpaceRecord}
use Rattle.tx_stage.specs.declared.contents.Contents.{Contents}
use Rattle.tx_stage.specs.declared.key.Key.{Key}
use Rattle.tx_stage.specs.declared.key.Key.TheVariants.{Space}
use Rattle.tx_stage.specs.declared.op.Op.{Op}
use Rattle.tx_stage.specs.declared.plan.Plan.{Plan}
use Rattle.tx_stage.specs.declared.value.Value.{Value}
use Rattle.tx_stage.specs.declared.value.Value.TheVariants as valued
use Rattle.tx_stage.specs.State.{state_in, state_now}
use Rattle.store_machine.specs.declared.alterations.Alterations.{Alterations}
use Rattle.store_machine.specs.declared.call.Verdict.{Verdict}
use Rattle.store_machine.specs.declared.journal.Entry.{Entry}
use Rattle.store_machine.specs.History.{Change, Operate, alters, left, value, changes_of}
use Rattle.store_machine.specs.Answers.{verdict, verdicts, accepted, is_accepted, sofar_with}
use Rattle.store_machine.specs.Counted.{counted}
use Rattle.store_machine.specs.Channels.{channels_of}
use Rattle.store_machine.specs.Legal.{Legal}
use Rattle.store_machine.specs.Marking.{Marks}

-- ---- the tables

-- the tables have at each key what these changes left
pub record Holds (t : Contents) (changes : List Change) : Type 0 where
  pub each : (key : Key) → state_in t key ≡ value key changes

-- the same, once a plan is applied
pub record Plans (t : Contents) (p : Plan) (changes : List Change) : Type 0 where
  pub each : (key : Key) → state_now t p key ≡ value key changes

-- ---- the dataspaces as a list

-- the dataspace of a path
abbrev pub dataspace_at : List ℕ → List SpaceRecord → Option SpaceRecord
dataspace_at path rs = find (λ (r : SpaceRecord). bytes_eq path r.path) rs

-- the list is in byte order of the paths, and has at each what the changes left
pub record Stands (rs : List SpaceRecord) (changes : List Change) : Type 0 where
  pub rise : IsStrictlySortedBy (slice_cmp nat_cmp) (map (λ (r : SpaceRecord). r.path) rs)
  pub finds : (path : List ℕ) → option_map valued.Space (dataspace_at path rs) ≡ value (Space path) changes

-- ---- calls in progress

-- a change was judged after those so far, and is planned if it is accepted
pub record Judged (t : Contents) (p : Plan) (v : Verdict) (sofar : List Change) (c : Change) : Type 0 where
  pub given : v ≡ verdict sofar c
  pub plan : Plans t p (sofar_with sofar c)

-- a change with this verdict was added to a plan, whatever the changes so far are
abbrev pub Judges : Contents → Plan → Plan → Verdict → Change → Type 0
Judges t old new v c = (sofar : List Change) → Plans t old sofar → Judged t new v sofar c

-- a list with a further item, if it is accepted
abbrev pub with_accepted : {X : Type 0} → Verdict → List X → X → List X
with_accepted v xs x = if is_accepted v then xs ++ x ∷ [] else xs

-- an item under a name was judged, and taken if it is accepted
pub record Takes {X : Type 0} (t : Contents) (sofar : List Change) (name : List ℕ) (x : X) (c : Change) (given given' : List (List ℕ × Verdict)) (taken taken' : List X) (p : Plan) : Type 0 where
  pub told : given' ≡ given ++ (name, verdict sofar c) ∷ []
  pub item : taken' ≡ with_accepted (verdict sofar c) taken x
  pub plan : Plans t p (sofar_with sofar c)

-- the items judged so far and those left make the verdicts and the accepted ones of all, and the plan has the accepted ones
pub record Drafting {X : Type 0} (change : X → Change) (t : Contents) (sofar : List Change) (rest all : List (List ℕ × X)) (given : List (List ℕ × Verdict)) (taken : List X) (p : Plan) : Type 0 where
  pub verdicts : given ++ verdicts change (sofar ++ map change taken) rest ≡ verdicts change sofar all
  pub items : taken ++ accepted change (sofar ++ map change taken) (values_of rest) ≡ accepted change sofar (values_of all)
  pub plan : Plans t p (sofar ++ map change taken)

-- the state of a key once these operations are applied to a value
abbrev pub after_ops : Key → List Op → Option Value → Option Value
after_ops key ops before = fold left before (filter (λ c. alters c key) (map Operate ops))

-- a plan, and the operations that are left, make of the tables what all of them make
pub record PlansOn (t : Contents) (p : Plan) (rest all : List Op) : Type 0 where
  pub each : (key : Key) → after_ops key rest (state_now t p key) ≡ after_ops key all (state_in t key)

-- ---- the whole

pub record Keeps (config : Config) (journal : List Entry) (total : ℕ) (t : Contents) (cs : List Channel) (a : Alterations) : Type 0 where
  pub legal : Legal config journal
  pub bytes : total ≡ counted journal
  pub limit : total ≤ 536870912
  pub holds : Holds t (changes_of journal)
  pub channels : cs ≡ channels_of config journal
  pub marks : Marks a journal
