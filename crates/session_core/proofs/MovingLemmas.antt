-- What an event does to what is heard: nothing, more of the streams, or stops; for the crates above too.
use Rattle.std.specs.Prelude.{ℕ, ℤ, Bool, true, false, List, [], ◌∷◌, ◌++◌, ◌≡◌, ◌≤◌, Option, Some, None, fold, length, if◌then◌else◌, refl}
use Rattle.std.specs.List.{AllByRecursion}
use Rattle.std.specs.Ordering.{int_eq}
use Rattle.std.proofs.Common.{inl, inr, ap, sym, ◌∙◌, subst, arith}
use Rattle.std.proofs.lemmas.Bool.{false≢true}
use Rattle.std.proofs.lemmas.Option.{none-some, same_Some}
use mathlib.Core.List.{IsPrefix}
use Rattle.etp_values.proofs.EachLemmas.{all-weaker}
use Rattle.etp_values.proofs.PrefixLemmas.{prefix_self}
use Rattle.server_config.specs.declared.config.Config.{Config}
use Rattle.channel_rows.specs.Notices.{reason_of}
use Rattle.channel_store.specs.declared.change.What.{What}
use Rattle.channel_store.specs.declared.subscription.Sub.{Sub}
use Rattle.store_machine.specs.declared.journal.Entry.{Entry}
use Rattle.subscribe_core.specs.Subscriptions.{Subbed}
use Rattle.subscribe_core.specs.Views.{sub_of}
use Rattle.subscribe_core.specs.declared.stop.StopCause.{StopCause}
use Rattle.session_core.specs.declared.state.Outgoing.{Outgoing}
use Rattle.session_core.specs.declared.state.Part.{Part}
use Rattle.session_core.specs.declared.state.Phase.{Phase}
use Rattle.session_core.specs.declared.state.Request.{Request}
use Rattle.session_core.specs.declared.state.Saying.{Saying}
use Rattle.session_core.specs.State.{State}
use Rattle.session_core.specs.Sending.{cut_all, is_spent, numbered, said, spent_phase}
use Rattle.session_core.specs.Streams.{Heard, IsStopped, Stopped, hear, heard, is_spent_phase, owed, owed_by, owed_to, silence, stream_to}
use Rattle.session_core.proofs.HearingLemmas.{IsQuiet, hear_parts, kinds_of, numbered_back, numbered_front, numbered_heard, numbered_quiet, numbered_stops, prefix_none, stops, tells}
use Rattle.session_core.proofs.OwingLemmas.{is_stream}
use Rattle.session_core.proofs.StartingLemmas.{IsKnown, Keeps, owes, owes_to}
use Rattle.session_core.proofs.StoppingLemmas.{Ends}

-- ---- what is owed

pub known_of : (P : Sub → Type 0) (c : ℤ) (xs : List Sub) (s : Sub) → sub_of c xs ≡ Some s → AllByRecursion P xs → P s
known_of P c [] s e all = absurd (none-some s e)
known_of P c (y ∷ ys) s e all = by (int_eq y.channel c) e (λ e. known_of P c ys s e all.1)
  where
    by : (b : Bool) → (if b then Some y else sub_of c ys) ≡ Some s → (sub_of c ys ≡ Some s → P s) → P s
    by true e rest = subst P (same_Some y s e) all.0
    by false e rest = rest e

pub keeps_on : (config : Config) (last p : ℕ) (v : Subbed) → last ≤ p → Keeps config last v → Keeps config p v
keeps_on config last p v le k = record {
  pending = k.pending;
  within = let w = k.within in omega (arith, w, le);
  apart = k.apart;
  known = all-weaker (IsKnown config last) (IsKnown config p) (λ s i. let f = i.0 in (omega (arith, f, le), i.1)) v.subs k.known;
}

pub owed_is : (config : Config) (h : List Entry) (last : ℕ) (v : Subbed) (c : ℤ) → Keeps config last v → last ≤ length h → owes h v c ≡ owed h v c
owed_is config h last v c keeps top = by (sub_of c v.subs) refl
  where
    by : (o : Option Sub) → sub_of c v.subs ≡ o → owes_to h v.cursor o ≡ owed_to h v.cursor o
    by None e = refl
    by (Some s) e = let f = (known_of (IsKnown config last) c v.subs s e keeps.known).0 in is_stream h v.cursor s (omega (arith, f, top))

-- ---- between two events

-- what was heard of a channel is what is owed, to the last part
pub record Flow (h : List Entry) (v : Subbed) (c : ℤ) (k : Heard) : Type 0 where
  pub told : k.told ≡ owes h v c
  pub part : k.part ≡ []

-- a session between two events, all of whose calls were answered below `last`
pub record Flowing (config : Config) (h : List Entry) (last : ℕ) (sent : List Outgoing) (s : State) : Type 0 where
  pub same_config : s.config ≡ config
  pub keeps : Keeps config last s.subs
  pub top : last ≤ length h
  pub out : s.out ≡ []
  pub flows : (c : ℤ) → Flow h s.subs c (heard c sent)

-- after an event that began in `s`
pub record After (config : Config) (h : List Entry) (last : ℕ) (sent : List Outgoing) (s t : State) (Causes : StopCause → Type 0) : Type 0 where
  pub same_config : t.config ≡ config
  pub keeps : Keeps config last t.subs
  pub flows : is_spent_phase t.phase ≡ false → (c : ℤ) → Flow h t.subs c (heard c (sent ++ t.out))
  pub stops : is_spent_phase t.phase ≡ false → (c : ℤ) → IsStopped Causes (sub_of c s.subs.subs) (sub_of c t.subs.subs) (heard c sent).told (heard c sent).stops (heard c (sent ++ t.out)).stops
  pub fronts : is_spent_phase t.phase ≡ true → (c : ℤ) → IsPrefix (heard c (sent ++ t.out)).told (owed_by h s.subs t.subs (sub_of c t.subs.subs) c)
  pub cuts : is_spent_phase t.phase ≡ true → (c : ℤ)
      → (all : List Stopped) × IsStopped Causes (sub_of c s.subs.subs) (sub_of c t.subs.subs) (heard c sent).told (heard c sent).stops all × IsPrefix (heard c (sent ++ t.out)).stops all

-- the subscriptions are as they were, and nothing was sent about them
pub record Hushed (s t : State) : Type 0 where
  pub config : t.config ≡ s.config
  pub subs : t.subs ≡ s.subs
  pub unheard : (c : ℤ) (k : Heard) → fold (hear c) k t.out ≡ fold (hear c) k s.out

fold_append : (c : ℤ) (xs ys : List Outgoing) (k : Heard) → fold (hear c) k (xs ++ ys) ≡ fold (hear c) (fold (hear c) k xs) ys
fold_append c [] ys k = refl
fold_append c (x ∷ xs) ys k = fold_append c xs ys (hear c k x)

-- ---- quiet events

pub hushed_self : (s : State) → Hushed s s
hushed_self s = record { config = refl; subs = refl; unheard = λ c k. refl }

-- what is heard after what was sent
heard_hushed : (s t : State) (sent : List Outgoing) (c : ℤ) → s.out ≡ [] → Hushed s t → heard c (sent ++ t.out) ≡ heard c sent
heard_hushed s t sent c none q = fold_append c sent t.out silence ∙ q.unheard c (heard c sent) ∙ ap (fold (hear c) (heard c sent)) none

flow_by : (h : List Entry) (v w : Subbed) (c : ℤ) (j k : Heard) → w ≡ v → j ≡ k → Flow h v c k → Flow h w c j
flow_by h v w c j k e f flow = record { told = ap (λ (x : Heard). x.told) f ∙ flow.told ∙ ap (λ (x : Subbed). owes h x c) (sym e); part = ap (λ (x : Heard). x.part) f ∙ flow.part }

pub stopped_same : (Causes : StopCause → Type 0) (o p : Option Sub) (told : List What) (old new : List Stopped) → p ≡ o → new ≡ old → IsStopped Causes o p told old new
stopped_same Causes None p told old new e f = f
stopped_same Causes (Some s) None told old new e f = absurd (none-some s e)
stopped_same Causes (Some s) (Some x) told old new e f = (f, same_Some x s e)

owed_by_same : (h : List Entry) (v : Subbed) (c : ℤ) → owed h v c ≡ owed_by h v v (sub_of c v.subs) c
owed_by_same h v c = by (sub_of c v.subs) refl
  where
    by : (o : Option Sub) → sub_of c v.subs ≡ o → owed h v c ≡ owed_by h v v o c
    by None e = refl
    by (Some s) e = ap (owed_to h v.cursor) e

pub hushed_after : (config : Config) (h : List Entry) (last p : ℕ) (sent : List Outgoing) (s t : State) (Causes : StopCause → Type 0) → Flowing config h last sent s → last ≤ p → Hushed s t → After config h p sent s t Causes
hushed_after config h last p sent s t Causes flowing le q = record {
  same_config = q.config ∙ flowing.same_config;
  keeps = subst (Keeps config p) (sym q.subs) (keeps_on config last p s.subs le flowing.keeps);
  flows = λ live c. flow_by h s.subs t.subs c (heard c (sent ++ t.out)) (heard c sent) q.subs (heard_hushed s t sent c flowing.out q) (flowing.flows c);
  stops = λ live c. stopped_same Causes (sub_of c s.subs.subs) (sub_of c t.subs.subs) (heard c sent).told (heard c sent).stops (heard c (sent ++ t.out)).stops
      (ap (λ (v : Subbed). sub_of c v.subs) q.subs) (ap (λ (k : Heard). k.stops) (heard_hushed s t sent c flowing.out q));
  fronts = λ spent c.
      subst (λ (v : Subbed). IsPrefix (heard c (sent ++ t.out)).told (owed_by h s.subs v (sub_of c v.subs) c)) (sym q.subs)
      (subst (IsPrefix (heard c (sent ++ t.out)).told)
      (ap (λ (k : Heard). k.told) (heard_hushed s t sent c flowing.out q) ∙ (flowing.flows c).told ∙ owed_is config h last s.subs c flowing.keeps flowing.top ∙ owed_by_same h s.subs c)
      (prefix_self (heard c (sent ++ t.out)).told));
  cuts = λ spent c. (
    (heard c (sent ++ t.out)).stops,
    stopped_same Causes (sub_of c s.subs.subs) (sub_of c t.subs.subs) (heard c sent).told (heard c sent).stops (heard c (sent ++ t.out)).stops
        (ap (λ (v : Subbed). sub_of c v.subs) q.subs) (ap (λ (k : Heard). k.stops) (heard_hushed s t sent c flowing.out q)),
    prefix_self (heard c (sent ++ t.out)).stops,
  );
}

-- quiet messages
abbrev pub AreQuiet : List Saying → Type 0
AreQuiet xs = AllByRecursion (λ (x : Saying). IsQuiet (tells x.message) (stops x.message)) xs

pub hushed_said : (r : Request) (xs : List Saying) (s t : State) → AreQuiet xs → Hushed s t → Hushed s (said r xs t)
hushed_said r xs s t quiet q = record {
  config = q.config;
  subs = q.subs;
  unheard = λ c k.
      let ps : List Part = cut_all t.limit t.number t.blobs xs in
      fold_append c t.out (numbered r t.next_id ps) k
      ∙ numbered_quiet c r t.next_id ps (fold (hear c) k t.out) (kinds_of IsQuiet t.limit t.number t.blobs xs quiet)
      ∙ q.unheard c k;
}

-- ---- events that send something

-- this is sent in a state in which nothing was heard yet, with these subscriptions
abbrev pub says_with : Request → List Saying → Subbed → State → State
says_with r xs v m = said r xs (record m { subs = v })

abbrev pub parts_in : State → List Saying → List Part
parts_in m xs = cut_all m.limit m.number m.blobs xs

heard_said : (r : Request) (xs : List Saying) (v : Subbed) (s m : State) (sent : List Outgoing) (c : ℤ) → s.out ≡ [] → Hushed s m
    → heard c (sent ++ (says_with r xs v m).out) ≡ fold (hear c) (heard c sent) (numbered r m.next_id (parts_in m xs))
heard_said r xs v s m sent c none q =
    fold_append c sent (m.out ++ numbered r m.next_id (parts_in m xs)) silence
    ∙ fold_append c m.out (numbered r m.next_id (parts_in m xs)) (heard c sent)
    ∙ ap (λ k. fold (hear c) k (numbered r m.next_id (parts_in m xs))) (q.unheard c (heard c sent) ∙ ap (fold (hear c) (heard c sent)) none)

-- unless the ids are used up, all is sent
pub unspent : (b : Bool) (p : Phase) → is_spent_phase (spent_phase b p) ≡ false → b ≡ false
unspent true p e = absurd (false≢true (sym e))
unspent false p e = refl

heard_all : (r : Request) (xs : List Saying) (v : Subbed) (s m : State) (sent : List Outgoing) (c : ℤ) → s.out ≡ [] → Hushed s m → is_spent_phase (says_with r xs v m).phase ≡ false
    → heard c (sent ++ (says_with r xs v m).out) ≡ hear_parts c (heard c sent) (parts_in m xs)
heard_all r xs v s m sent c none q live =
    heard_said r xs v s m sent c none q ∙ numbered_heard c r m.next_id (parts_in m xs) (heard c sent) (unspent (is_spent m.next_id (parts_in m xs)) m.phase live)

prefix_empty : {A : Type 0} (xs ys : List A) → IsPrefix xs [] → IsPrefix xs ys
prefix_empty [] ys p = prefix_none ys
prefix_empty (x ∷ xs) ys p = absurd (cc (p.1))

-- what grows: no subscription ends
module _ (config : Config) (h : List Entry) (last p : ℕ) (sent : List Outgoing) (s m : State) (Causes : StopCause → Type 0)
    (flowing : Flowing config h last sent s) (q : Hushed s m) (r : Request) (xs : List Saying) (v : Subbed) where
  pub grown_after : p ≤ length h → Keeps config p v → AllByRecursion (λ (x : Saying). stops x.message ≡ false) xs
      → ((c : ℤ) (k : Heard) → k.part ≡ [] → k.told ≡ owes h s.subs c → Flow h v c (hear_parts c k (parts_in m xs)) × ((hear_parts c k (parts_in m xs)).stops ≡ k.stops))
      → ((c : ℤ) (x : Sub) → sub_of c s.subs.subs ≡ Some x → sub_of c v.subs ≡ Some x)
      → After config h p sent s (says_with r xs v m) Causes
  grown_after top keeps quiet moves stays = record {
    same_config = q.config ∙ flowing.same_config;
    keeps = keeps;
    flows = λ live c. flow_by h v v c (heard c (sent ++ (says_with r xs v m).out)) (hear_parts c (heard c sent) (parts_in m xs)) refl (heard_all r xs v s m sent c flowing.out q live) (moved c).0;
    stops = λ live c. stopped c (sub_of c s.subs.subs) refl (ap (λ (k : Heard). k.stops) (heard_all r xs v s m sent c flowing.out q live) ∙ (moved c).1);
    fronts = λ spent c. front c (sub_of c v.subs) refl;
    cuts = λ spent c. (
      (hear_parts c (heard c sent) (parts_in m xs)).stops,
      stopped_all c (sub_of c s.subs.subs) refl,
      subst (λ (k : Heard). IsPrefix k.stops (hear_parts c (heard c sent) (parts_in m xs)).stops) (sym (heard_said r xs v s m sent c flowing.out q)) (numbered_stops c r m.next_id (parts_in m xs) (heard c sent)),
    );
  }
    where
      moved : (c : ℤ) → Flow h v c (hear_parts c (heard c sent) (parts_in m xs)) × ((hear_parts c (heard c sent) (parts_in m xs)).stops ≡ (heard c sent).stops)
      moved c = moves c (heard c sent) (flowing.flows c).part (flowing.flows c).told

      stopped : (c : ℤ) (o : Option Sub) → sub_of c s.subs.subs ≡ o → (heard c (sent ++ (says_with r xs v m).out)).stops ≡ (heard c sent).stops
          → IsStopped Causes o (sub_of c v.subs) (heard c sent).told (heard c sent).stops (heard c (sent ++ (says_with r xs v m).out)).stops
      stopped c None e same = same
      stopped c (Some x) e same = stopped_same Causes (Some x) (sub_of c v.subs) (heard c sent).told (heard c sent).stops (heard c (sent ++ (says_with r xs v m).out)).stops (stays c x e) same

      stopped_all : (c : ℤ) (o : Option Sub) → sub_of c s.subs.subs ≡ o
          → IsStopped Causes o (sub_of c v.subs) (heard c sent).told (heard c sent).stops (hear_parts c (heard c sent) (parts_in m xs)).stops
      stopped_all c None e = (moved c).1
      stopped_all c (Some x) e = stopped_same Causes (Some x) (sub_of c v.subs) (heard c sent).told (heard c sent).stops (hear_parts c (heard c sent) (parts_in m xs)).stops (stays c x e) (moved c).1

      part : (c : ℤ) → IsPrefix (heard c (sent ++ (says_with r xs v m).out)).told (owed h v c)
      part c =
          subst (λ (k : Heard). IsPrefix k.told (owed h v c)) (sym (heard_said r xs v s m sent c flowing.out q))
          (subst (IsPrefix (fold (hear c) (heard c sent) (numbered r m.next_id (parts_in m xs))).told) ((moved c).0.told ∙ owed_is config h p v c keeps top)
          (numbered_front c r m.next_id (parts_in m xs) (heard c sent) (kinds_of (λ t b. b ≡ false) m.limit m.number m.blobs xs quiet)))

      front : (c : ℤ) (o : Option Sub) → sub_of c v.subs ≡ o → IsPrefix (heard c (sent ++ (says_with r xs v m).out)).told (owed_by h s.subs v o c)
      front c None e = prefix_empty (heard c (sent ++ (says_with r xs v m).out)).told (owed h s.subs c) (subst (λ (o : Option Sub). IsPrefix (heard c (sent ++ (says_with r xs v m).out)).told (owed_to h v.cursor o)) e (part c))
      front c (Some x) e = subst (λ (o : Option Sub). IsPrefix (heard c (sent ++ (says_with r xs v m).out)).told (owed_to h v.cursor o)) e (part c)

  -- what stops: subscriptions end with this cause, and nothing else is sent
  pub stopped_after : (cause : StopCause) → Causes cause → last ≤ p → Keeps config p v → v.cursor ≡ s.subs.cursor → AllByRecursion (λ (x : Saying). tells x.message ≡ false) xs
      → ((c : ℤ) (k : Heard) → Ends (reason_of cause) k (sub_of c s.subs.subs) (hear_parts c k (parts_in m xs)) (sub_of c v.subs))
      → After config h p sent s (says_with r xs v m) Causes
  stopped_after cause causes le keeps cursor quiet ends = record {
    same_config = q.config ∙ flowing.same_config;
    keeps = keeps;
    flows = λ live c. flow_by h v v c (heard c (sent ++ (says_with r xs v m).out)) (hear_parts c (heard c sent) (parts_in m xs)) refl (heard_all r xs v s m sent c flowing.out q live)
        (flow c (sub_of c s.subs.subs) (sub_of c v.subs) (hear_parts c (heard c sent) (parts_in m xs)) refl refl (ends c (heard c sent)));
    stops = λ live c.
        subst (λ (k : Heard). IsStopped Causes (sub_of c s.subs.subs) (sub_of c v.subs) (heard c sent).told (heard c sent).stops k.stops) (sym (heard_all r xs v s m sent c flowing.out q live))
        (stopped c (sub_of c s.subs.subs) (sub_of c v.subs) (hear_parts c (heard c sent) (parts_in m xs)) (ends c (heard c sent)));
    fronts = λ spent c. front c (sub_of c s.subs.subs) (sub_of c v.subs) (hear_parts c (heard c sent) (parts_in m xs)) refl (ends c (heard c sent));
    cuts = λ spent c. (
      (hear_parts c (heard c sent) (parts_in m xs)).stops,
      stopped c (sub_of c s.subs.subs) (sub_of c v.subs) (hear_parts c (heard c sent) (parts_in m xs)) (ends c (heard c sent)),
      subst (λ (k : Heard). IsPrefix k.stops (hear_parts c (heard c sent) (parts_in m xs)).stops) (sym (heard_said r xs v s m sent c flowing.out q)) (numbered_stops c r m.next_id (parts_in m xs) (heard c sent)),
    );
  }
    where
      told_of : (c : ℤ) (o : Option Sub) → sub_of c s.subs.subs ≡ o → (heard c sent).told ≡ owes_to h s.subs.cursor o
      told_of c o e = (flowing.flows c).told ∙ ap (owes_to h s.subs.cursor) e

      flow : (c : ℤ) (o w : Option Sub) (j : Heard) → sub_of c s.subs.subs ≡ o → sub_of c v.subs ≡ w → Ends (reason_of cause) (heard c sent) o j w → Flow h v c j
      flow c None w j e f ends = record {
        told = ap (λ (k : Heard). k.told) ends.1 ∙ told_of c None e ∙ ap (owes_to h v.cursor) (sym (f ∙ ends.0));
        part = ap (λ (k : Heard). k.part) ends.1 ∙ (flowing.flows c).part;
      }
      flow c (Some x) w j e f (inl ends) = record {
        told = ap (λ (k : Heard). k.told) ends.1 ∙ told_of c (Some x) e ∙ (λ i. owes_to h (sym cursor i) (sym (f ∙ ends.0) i));
        part = ap (λ (k : Heard). k.part) ends.1 ∙ (flowing.flows c).part;
      }
      flow c (Some x) w j e f (inr ends) = record {
        told = ap (λ (k : Heard). k.told) ends.1 ∙ ap (owes_to h v.cursor) (sym (f ∙ ends.0));
        part = ap (λ (k : Heard). k.part) ends.1;
      }

      stopped : (c : ℤ) (o w : Option Sub) (j : Heard) → Ends (reason_of cause) (heard c sent) o j w → IsStopped Causes o w (heard c sent).told (heard c sent).stops j.stops
      stopped c None w j ends = ap (λ (k : Heard). k.stops) ends.1
      stopped c (Some x) w j (inl ends) = stopped_same Causes (Some x) w (heard c sent).told (heard c sent).stops j.stops ends.0 (ap (λ (k : Heard). k.stops) ends.1)
      stopped c (Some x) w j (inr ends) = subst (λ (o : Option Sub). IsStopped Causes (Some x) o (heard c sent).told (heard c sent).stops j.stops) (sym ends.0) (cause, causes, ap (λ (k : Heard). k.stops) ends.1)

      part : (c : ℤ) → IsPrefix (heard c (sent ++ (says_with r xs v m).out)).told (owed h s.subs c)
      part c =
          subst (λ (k : Heard). IsPrefix k.told (owed h s.subs c)) (sym (heard_said r xs v s m sent c flowing.out q))
          (subst (IsPrefix (fold (hear c) (heard c sent) (numbered r m.next_id (parts_in m xs))).told) ((flowing.flows c).told ∙ owed_is config h last s.subs c flowing.keeps flowing.top)
          (numbered_back c r m.next_id (parts_in m xs) (heard c sent) (kinds_of (λ t b. t ≡ false) m.limit m.number m.blobs xs quiet)))

      front : (c : ℤ) (o w : Option Sub) (j : Heard) → sub_of c s.subs.subs ≡ o → Ends (reason_of cause) (heard c sent) o j w → IsPrefix (heard c (sent ++ (says_with r xs v m).out)).told (owed_by h s.subs v w c)
      front c o None j e ends = part c
      front c None (Some y) j e ends = absurd (none-some y (sym ends.0))
      front c (Some x) (Some y) j e (inl ends) =
          subst (IsPrefix (heard c (sent ++ (says_with r xs v m).out)).told) (ap (owed_to h s.subs.cursor) (e ∙ sym ends.0) ∙ ap (λ u. stream_to h u y) (sym cursor)) (part c)
      front c (Some x) (Some y) j e (inr ends) = absurd (none-some y (sym ends.0))
