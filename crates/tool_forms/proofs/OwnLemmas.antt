-- What the journal has of a tag's session, and the places of its calls.
use Rattle.std.proofs.Common.{◌≡◌, ◌≢◌, ℕ, ℤ, ◌<◌, Bool, true, false, cond, ◌==◌, List, [], ◌∷◌, ◌++◌, length, None, Some, if◌then◌else◌, refl, ap, sym, ◌∙◌, subst, arith, append-nil, length-append}
use Rattle.std.specs.Prelude.{IsSomeAnd, slice_get}
use Rattle.std.specs.declared.option.Option.{Option}
use Rattle.std.specs.Map.{values_of}
use Rattle.std.specs.Ordering.{nat_cmp}
use Rattle.std.specs.BTreeMap.{is_at}
use mathlib.Core.List.{IsPrefix, prefix-append}
use Rattle.etp_values.specs.Rising.{Rises}
use Rattle.etp_values.proofs.PrefixLemmas.{prefix_get}
use Rattle.etp_values.proofs.RisingLemmas.{rises_snoc}
use Rattle.etp_capture.specs.declared.frame.Frame.{Frame}
use Rattle.server_config.specs.declared.config.Config.{Config}
use Rattle.store_machine.specs.Answers.{answered, added, has_room, wanted}
use Rattle.store_machine.specs.Legal.{own}
use Rattle.store_machine.specs.declared.call.StoreCall.{StoreCall}
use Rattle.store_machine.specs.declared.call.StoreCall.TheVariants as call
use Rattle.store_machine.specs.declared.journal.Act.TheVariants as act
use Rattle.store_machine.specs.declared.journal.Entry.{Entry}
use Rattle.session_core.specs.Run.{at_place}
use Rattle.session_core.specs.State.{State}
use Rattle.tool_forms.specs.Turns.{event_of, turned, turn, first_open, entered_journal, entered_place, place_in}
use Rattle.tool_forms.specs.Play.{World, state_of, with_tag}
use Rattle.tool_forms.specs.Sound.{IsSound}
use Rattle.tool_forms.specs.TagRuns.{TagRun, first_run, run_with, run_entered, run_after, Wrote}
use Rattle.tool_forms.specs.declared.tag.OpenSession.{OpenSession}
use Rattle.tool_forms.specs.declared.tag.TagState.{TagState}
use Rattle.tool_forms.specs.declared.tag.TagState.TheVariants.{Ended, Open}
use Rattle.tool_forms.proofs.GrowthLemmas.{By, Grows, entry_last, own_all, own_kept, own_more}
use Rattle.etp_values.proofs.BoolLemmas.{by_test}
use Rattle.tool_forms.proofs.SoundnessLemmas.{TagFits, entering, let_in, number_below, number_in, number_put, open_next}
use Rattle.tool_forms.proofs.TagLemmas.{at_same, put_found}

-- ---- places

pub fall-turned : (c : Config) (h : List Entry) (at : ℤ) (s : OpenSession) (st : State) (o : Option StoreCall) (low : ℕ) (ps : List ℕ) → Rises low ps (length h)
    → let t = turned c h at s st o in Rises low (ps ++ t.marks) (length t.journal)
fall-turned c h at s st None low ps is = subst (λ l. Rises low l (length h)) (sym (append-nil ps)) is
fall-turned c h at s st (Some x) low ps is =
    let es : List Entry = added c h s.number s.entries at x in
    rises_snoc low ps (length h) (length h) (length (h ++ es)) is (omega arith) (omega (arith, length-append h es))

-- ---- entries

values-append : (xs ys : List (ℕ × Entry)) → values_of (xs ++ ys) ≡ values_of xs ++ values_of ys
values-append [] ys = refl
values-append (x ∷ xs) ys = ap (λ l. x.1 ∷ l) (values-append xs ys)

pub values-placed : (p : ℕ) (es : List Entry) → values_of (at_place p es) ≡ es
values-placed p [] = refl
values-placed p (e ∷ es) = ap (λ l. e ∷ l) (values-placed p es)

-- what a session wrote is in a longer journal
stands_on : (h h' : List Entry) (n : ℕ) (made made' : List (ℕ × Entry)) → IsPrefix h h' → ((e : Entry) → own n h ≡ e ∷ values_of made → own n h' ≡ e ∷ values_of made') → Wrote h n made → Wrote h' n made'
stands_on h h' n made made' pre more is = from (slice_get h n) (slice_get h' n) (λ e at. prefix_get h h' n e pre at) is
  where
    from : (o p : Option Entry) → ((e : Entry) → o ≡ Some e → p ≡ Some e) → IsSomeAnd o (λ (e : Entry). (e.act ≡ act.Enter) × (own n h ≡ e ∷ values_of made))
        → IsSomeAnd p (λ (e : Entry). (e.act ≡ act.Enter) × (own n h' ≡ e ∷ values_of made'))
    from None p grows is = absurd is
    from (Some e) p grows is = subst (λ (x : Option Entry). IsSomeAnd x (λ (d : Entry). (d.act ≡ act.Enter) × (own n h' ≡ d ∷ values_of made'))) (sym (grows e refl)) (is.0, more e is.1)

-- others write nothing of it
pub wrote-longer : (h h' : List Entry) (n : ℕ) (made : List (ℕ × Entry)) → IsPrefix h h' → own n h' ≡ own n h → Wrote h n made → Wrote h' n made
wrote-longer h h' n made pre same is = stands_on h h' n made made pre (λ e own_is. same ∙ own_is) is

-- its own entries join what it wrote
pub wrote-more : (h es : List Entry) (n : ℕ) (made more : List (ℕ × Entry)) → By n es → values_of more ≡ es → Wrote h n made → Wrote (h ++ es) n (made ++ more)
wrote-more h es n made more by same is =
    stands_on h (h ++ es) n made (made ++ more) (prefix-append h es)
    (λ e own_is. own_more n h es ∙ ap (λ l. l ++ own n es) own_is ∙ ap (λ l. e ∷ (values_of made ++ l)) (own_all n es by ∙ sym same) ∙ ap (λ l. e ∷ l) (sym (values-append made more))) is

-- a session that has just entered wrote only that
wrote-first : (h : List Entry) (at : ℤ) (n : ℕ) (b : Bool) → own (length h) h ≡ [] → place_in (let_in h b) ≡ Some n → Wrote (h ++ entering h at b) n []
wrote-first h at n true fresh is =
    let same : length h ≡ n = cc in
    let e : Entry = record { by = length h; nth = 0; at = at; act = act.Enter } in
    let all : own (length h) (h ++ e ∷ []) ≡ e ∷ [] = own_more (length h) h (e ∷ []) ∙ ap (λ l. l ++ own (length h) (e ∷ [])) fresh ∙ own_all (length h) (e ∷ []) (refl, tt) in
    subst (λ (k : ℕ). Wrote (h ++ e ∷ []) k []) same (entry_last h e (λ (x : Entry). (x.act ≡ act.Enter) × (own (length h) (h ++ e ∷ []) ≡ x ∷ [])) (refl, all))
wrote-first h at n false fresh is = absurd cc

pub entered-wrote : (c : Config) (h : List Entry) (f : Frame) (n : ℕ) → own (length h) h ≡ [] → entered_place c h ≡ Some n → Wrote (entered_journal c h f) n []
unfolding answered added
entered-wrote c h f n fresh is = wrote-first h f.moment n (has_room c h (wanted c h call.Enter)) fresh is

-- its number is the length that the journal had
number_entered : (h : List Entry) (n : ℕ) (b : Bool) → place_in (let_in h b) ≡ Some n → length h ≡ n
number_entered h n true is = cc
number_entered h n false is = absurd cc

entered_number : (c : Config) (h : List Entry) (n : ℕ) → entered_place c h ≡ Some n → length h ≡ n
unfolding answered
entered_number c h n is = number_entered h n (has_room c h (wanted c h call.Enter)) is

-- ---- numbers

-- no open session of another tag has this number
abbrev pub IsAlone : ℕ → ℕ → List (ℕ × TagState) → Type 0
IsAlone tag n tags = (q : ℕ) (s : OpenSession) → state_of q tags ≡ Some (Open s) → s.number ≡ n → tag ≡ q

-- the same of a tag's session, if one has entered
abbrev pub IsApart : ℕ → Option TagRun → List (ℕ × TagState) → Type 0
IsApart tag None tags = Unit {0}
IsApart tag (Some r) tags = IsAlone tag r.number tags

-- the session that another tag's frame is of has another number
pub number_differs : (tag q n : ℕ) (h : List Entry) (tags : List (ℕ × TagState)) (o : Option TagState) → IsAlone tag n tags → n < length h → state_of q tags ≡ o → (tag ≡ q → ⊥) → number_in h o ≢ n
number_differs tag q n h tags None alone below at differ = λ same. omega arith
number_differs tag q n h tags (Some (Open s)) alone below at differ = λ same. differ (alone q s at same)
number_differs tag q n h tags (Some Ended) alone below at differ = λ same. omega arith

-- a frame's session is one of the tag, or has another number
alone_here : (tag q n m : ℕ) (h : List Entry) (tags : List (ℕ × TagState)) (o : Option TagState) → IsAlone tag n tags → n < length h → state_of q tags ≡ o → m ≡ number_in h o → m ≡ n → tag ≡ q
alone_here tag q n m h tags None alone below at is same = absurd (omega (arith, is, same))
alone_here tag q n m h tags (Some (Open s)) alone below at is same = alone q s at (sym is ∙ same)
alone_here tag q n m h tags (Some Ended) alone below at is same = absurd (omega (arith, is, same))

-- a number that was alone stays alone after a frame
alone_after : (tag n : ℕ) (h h' : List Entry) (tags : List (ℕ × TagState)) (at : ℕ) (state : TagState) → IsAlone tag n tags → n < length h → TagFits (number_in h (state_of at tags)) h' state → IsAlone tag n (with_tag at state tags)
alone_after tag n h h' tags at state alone below fits = λ q s open_is same.
    let found = put_found at state q tags in
    by_test (is_at (nat_cmp at) q)
    (λ here.
    let is : Some state ≡ Some (Open s) = sym (ap (λ b. cond b (Some state) (state_of q tags)) here) ∙ sym found ∙ open_is in
    let number : s.number ≡ number_in h (state_of at tags) = number_put (number_in h (state_of at tags)) h' state s fits is in
    alone_here tag at n s.number h tags (state_of at tags) alone below refl number same ∙ at_same at q here)
    (λ other. alone q s (sym (ap (λ b. cond b (Some state) (state_of q tags)) other) ∙ sym found ∙ open_is) same)

-- a number that is new is alone
alone_new : (tag : ℕ) (w : World) (state : TagState) → IsSound w → IsAlone tag (length w.journal) (with_tag tag state w.tags)
alone_new tag w state sound = λ q s open_is same.
    let found = put_found tag state q w.tags in
    by_test (is_at (nat_cmp tag) q)
    (λ here. at_same tag q here)
    (λ other.
    let before : state_of q w.tags ≡ Some (Open s) = sym (ap (λ b. cond b (Some state) (state_of q w.tags)) other) ∙ sym found ∙ open_is in
    absurd (number_below w.journal s (open_next w q s sound before) same))

kind_number : (b : Bool) (r q : TagRun) → q.number ≡ r.number → (if b then r else q).number ≡ r.number
kind_number true r q is = refl
kind_number false r q is = is

run_number : (c : Config) (h : List Entry) (s : OpenSession) (f : Frame) (r : TagRun) → (run_with c h s f r).number ≡ r.number
run_number c h s f r = kind_number (f.kind == 3) r (record { number = r.number; events = r.events ++ event_of h f ∷ []; places = r.places ++ (turn c h s f).marks }) refl

-- the number of a run, if there is one, is below this one
abbrev pub IsBelow : ℕ → Option TagRun → Type 0
IsBelow n None = Unit {0}
IsBelow n (Some r) = r.number < n

entered_apart : (tag : ℕ) (w : World) (f : Frame) (state : TagState) (o : Option ℕ) → entered_place w.config w.journal ≡ o → IsSound w
    → IsApart tag (run_entered w.config (entered_journal w.config w.journal f) f o) (with_tag tag state w.tags)
entered_apart tag w f state None is sound = tt
entered_apart tag w f state (Some n) is sound =
    let j : List Entry = entered_journal w.config w.journal f in
    subst (λ (m : ℕ). IsAlone tag m (with_tag tag state w.tags)) (entered_number w.config w.journal n is ∙ sym (run_number w.config j (first_open w.config n) f (first_run n))) (alone_new tag w state sound)

-- the session of a tag stays apart after a frame of the tag
pub own_apart : (tag : ℕ) (w : World) (f : Frame) (r : Option TagRun) (o : Option TagState) (h' : List Entry) (state : TagState) → IsSound w → IsBelow (length w.journal) r
    → TagFits (number_in w.journal (state_of tag w.tags)) h' state → IsApart tag r w.tags → IsApart tag (run_after w.config w.journal f r o) (with_tag tag state w.tags)
own_apart tag w f r None h' state sound below fits apart = entered_apart tag w f state (entered_place w.config w.journal) refl sound
own_apart tag w f None (Some (Open s)) h' state sound below fits apart = tt
own_apart tag w f (Some r) (Some (Open s)) h' state sound below fits apart =
    subst (λ (m : ℕ). IsAlone tag m (with_tag tag state w.tags)) (sym (run_number w.config w.journal s f r)) (alone_after tag r.number w.journal h' w.tags tag state apart below fits)
own_apart tag w f None (Some Ended) h' state sound below fits apart = tt
own_apart tag w f (Some r) (Some Ended) h' state sound below fits apart = alone_after tag r.number w.journal h' w.tags tag state apart below fits

-- and after one of another tag
pub other_apart : (tag : ℕ) (w : World) (at : ℕ) (r : Option TagRun) (h' : List Entry) (state : TagState) → IsBelow (length w.journal) r → TagFits (number_in w.journal (state_of at w.tags)) h' state
    → IsApart tag r w.tags → IsApart tag r (with_tag at state w.tags)
other_apart tag w at None h' state below fits apart = tt
other_apart tag w at (Some r) h' state below fits apart = alone_after tag r.number w.journal h' w.tags at state apart below fits

-- a frame of another tag adds no entry of this tag's session
abbrev pub OwnStays : List Entry → List Entry → Option TagRun → Type 0
OwnStays h h' None = Unit {0}
OwnStays h h' (Some r) = own r.number h' ≡ own r.number h

pub own_stays : (tag at : ℕ) (h h' : List Entry) (tags : List (ℕ × TagState)) (r : Option TagRun) → (tag ≡ at → ⊥) → IsBelow (length h) r → Grows (number_in h (state_of at tags)) h h' → IsApart tag r tags → OwnStays h h' r
own_stays tag at h h' tags None differ below grows apart = tt
own_stays tag at h h' tags (Some r) differ below grows apart =
    own_kept (number_in h (state_of at tags)) r.number h h' grows (λ same. number_differs tag at r.number h tags (state_of at tags) apart below refl differ (sym same))
