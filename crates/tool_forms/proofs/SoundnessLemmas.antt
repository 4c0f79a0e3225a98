-- The tags fit the journal after each frame.
use Rattle.std.proofs.Common.{◌≡◌, ◌≢◌, ℕ, ℤ, Bool, true, false, cond, List, [], ◌∷◌, ◌++◌, length, refl, ap, sym, ◌∙◌, subst, arith, None, Some, if◌then◌else◌, eqb, ◌==◌, ◌||◌}
use Rattle.std.specs.Prelude.{IfSome, is_some}
use Rattle.std.specs.declared.option.Option.{Option}
use Rattle.std.specs.Ordering.{nat_cmp}
use Rattle.std.specs.BTreeMap.{is_at}
use Rattle.std.proofs.lemmas.Bool.{false≢true}
use Rattle.std.proofs.lemmas.Bool.Decides.{nat_tests}
use Rattle.etp_capture.specs.declared.frame.Frame.{Frame}
use Rattle.server_config.specs.declared.config.Config.{Config}
use Rattle.store_machine.specs.Answers.{answered, added, has_room, wanted}
use Rattle.store_machine.specs.Laws.{IsCallAt, NumbersStay, EntriesAreTheSessions}
use Rattle.store_machine.specs.Legal.{own, IsNext}
use Rattle.store_machine.specs.declared.journal.Entry.{Entry}
use Rattle.store_machine.specs.declared.journal.Act.TheVariants as act
use Rattle.store_machine.specs.declared.call.StoreCall.{StoreCall}
use Rattle.store_machine.specs.declared.call.StoreCall.TheVariants as call
use Rattle.store_machine.specs.declared.call.Reply.{Reply}
use Rattle.store_machine.specs.declared.call.Reply.TheVariants as reply
use Rattle.session_core.specs.State.{State}
use Rattle.session_core.specs.Arriving.{Event}
use Rattle.session_core.specs.Run.{takes, moment_of, TakingAsks}
use Rattle.session_core.specs.Session.{end_of}
use Rattle.session_core.specs.declared.state.End.{End}
use Rattle.tool_forms.specs.Turns.{event_of, Turn, turned, turn, Effect, effect_after, effect_open, first_open, place_in, entered_journal, entered_place, effect_entered, effect_new, effect_at}
use Rattle.tool_forms.specs.Play.{World, state_of, with_tag, has_ended, world_after, effect}
use Rattle.tool_forms.specs.Plays.{Meets}
use Rattle.tool_forms.specs.Sound.{FitsOpen, FitsTag, IsSound}
use Rattle.tool_forms.specs.declared.tag.TagState.{TagState}
use Rattle.etp_values.proofs.BoolLemmas.{by_test}
use Rattle.etp_values.proofs.ListLemmas.{below_length}
use Rattle.session_core.proofs.StepLemmas.{asks_call}
use Rattle.tool_forms.specs.declared.tag.TagState.TheVariants.{Ended, Open}
use Rattle.tool_forms.specs.declared.tag.OpenSession.{OpenSession}
use Rattle.tool_forms.proofs.GrowthLemmas.{By, by_of, Grows, grows_none, grows_trans, entry_last, own_more, own_all, next_kept, next_more}
use Rattle.tool_forms.proofs.TagLemmas.{put_twice, at_same, at_self, IsPut}

-- the laws of the store's numbers and of a session's steps that are needed here
pub record Laws : Type 0 where
  pub stay : NumbersStay
  pub own_entries : EntriesAreTheSessions
  pub asks : TakingAsks

-- a tag's state after a frame is that of the same session, and fits
abbrev pub TagFits : ℕ → List Entry → TagState → Type 0
TagFits n h Ended = Unit {0}
TagFits n h (Open s) = (s.number ≡ n) × FitsOpen h s

pub record EffectFits (n : ℕ) (h : List Entry) (e : Effect) : Type 0 where
  pub grows : Grows n h e.journal
  pub tag : TagFits n e.journal e.tag

-- if no session is open yet, nothing needs to be known
pub sound_first : (config : Config) (h : List Entry) (tags : List (ℕ × TagState)) → tags ≡ [] → IsSound (record { config = config; journal = h; tags = tags })
sound_first config h tags none = subst (λ (t : List (ℕ × TagState)). IsSound (record { config = config; journal = h; tags = t })) (sym none) begun
  where
    begun : IsSound (record { config = config; journal = h; tags = [] })
    begun = record { fits = λ tag. tt; apart = λ tag other s t is are same. absurd (false≢true (ap is_some is)) }

-- what is kept of a session by its turn
record TurnFits (n : ℕ) (h : List Entry) (t : Turn) : Type 0 where
  grows : Grows n h t.journal
  number : t.session.number ≡ n
  fits : FitsOpen t.journal t.session

pub by_added : EntriesAreTheSessions → (c : Config) (h : List Entry) (n nth : ℕ) (at : ℤ) (x : StoreCall) → IsCallAt h x → By n (added c h n nth at x)
unfolding added
by_added own_entries c h n nth at x is = by_of n nth at (added c h n nth at x) (own_entries c h n nth at x is)

by_kind : (n : ℕ) (h : List Entry) (b : Bool) (x y : Effect) → EffectFits n h x → EffectFits n h y → EffectFits n h (if b then x else y)
by_kind n h true x y a b = a
by_kind n h false x y a b = b

-- the entries and the reply if there is room to enter, or none
abbrev pub entering : List Entry → ℤ → Bool → List Entry
entering h at b = if b then record { by = length h; nth = 0; at = at; act = act.Enter } ∷ [] else []

abbrev pub let_in : List Entry → Bool → Reply
let_in h b = if b then reply.Entered (length h) else reply.JournalFull

abbrev entered_by : Config → List Entry → Frame → Bool → Effect
entered_by c h f b = effect_entered c (h ++ entering h f.moment b) f (place_in (let_in h b))

pub next_entered : (h : List Entry) (e : Entry) → e.by ≡ length h → e.act ≡ act.Enter → own (length h) h ≡ [] → IsNext (h ++ e ∷ []) (length h) 1
next_entered h e by enters fresh =
    let all : own (length h) (h ++ e ∷ []) ≡ e ∷ [] = own_more (length h) h (e ∷ []) ∙ ap (λ l. l ++ own (length h) (e ∷ [])) fresh ∙ own_all (length h) (e ∷ []) (by, tt) in
    record {
      session = entry_last h e (λ (x : Entry). x.act ≡ act.Enter) enters;
      entries = sym (ap length all);
    }

entered_next : (h : List Entry) (at : ℤ) (n : ℕ) (b : Bool) → own (length h) h ≡ [] → place_in (let_in h b) ≡ Some n → IsNext (h ++ entering h at b) n 1
entered_next h at n true fresh is =
    let same : length h ≡ n = cc in
    let e : Entry = record { by = length h; nth = 0; at = at; act = act.Enter } in
    subst (λ (k : ℕ). IsNext (h ++ e ∷ []) k 1) same (next_entered h e refl refl fresh)
entered_next h at n false fresh is = absurd cc

-- a session that was let in has one entry, that of entering
pub enter_next : (c : Config) (h : List Entry) (f : Frame) (n : ℕ) → own (length h) h ≡ [] → entered_place c h ≡ Some n → IsNext (entered_journal c h f) n 1
unfolding answered added
enter_next c h f n fresh is = entered_next h f.moment n (has_room c h (wanted c h call.Enter)) fresh is

-- the number of the session that a frame is of
abbrev pub number_in : List Entry → Option TagState → ℕ
number_in h None = length h
number_in h (Some (Open s)) = s.number
number_in h (Some Ended) = length h

-- ---- what a frame leaves

module _ (laws : Laws) where
  turned_fits : (c : Config) (h : List Entry) (at : ℤ) (s : OpenSession) (st : State) (o : Option StoreCall) → IfSome o (IsCallAt h) → IsNext h s.number s.entries
      → TurnFits s.number h (turned c h at s st o)
  turned_fits c h at s st None is next = record { grows = grows_none s.number h; number = refl; fits = record { next = next } }
  turned_fits c h at s st (Some x) is next =
      let es : List Entry = added c h s.number s.entries at x in
      let by : By s.number es = by_added laws.own_entries c h s.number s.entries at x is in
      record {
        grows = record { more = es; is = refl; by = by };
        number = refl;
        fits = record { next = next_more laws.stay s.number s.entries h es by next };
      }

  turn_fits : (c : Config) (h : List Entry) (s : OpenSession) (f : Frame) → FitsOpen h s → TurnFits s.number h (turn c h s f)
  turn_fits c h s f fits =
      let e : Event = event_of h f in
      turned_fits c h (moment_of e) s (takes s.session e).state (takes s.session e).call
      (asks_call (takes s.session e).call h (laws.asks s.session e)) fits.next

  after_fits : (n : ℕ) (h : List Entry) (f : Frame) (t : Turn) (o : Option End) → TurnFits n h t → EffectFits n h (effect_after f t o)
  after_fits n h f t None fits = record {
    grows = fits.grows;
    tag = (fits.number, record { next = fits.fits.next });
  }
  after_fits n h f t (Some e) fits = record { grows = fits.grows; tag = tt }

  open_fits : (c : Config) (h : List Entry) (s : OpenSession) (f : Frame) → FitsOpen h s → EffectFits s.number h (effect_open c h s f)
  open_fits c h s f fits =
      by_kind s.number h (eqb f.kind 3) _ _ (record { grows = grows_none s.number h; tag = tt })
      (after_fits s.number h f (turn c h s f) (end_of (turn c h s f).session.session.phase) (turn_fits c h s f fits))

  pub first_fits : (c : Config) (h : List Entry) (n : ℕ) → IsNext h n 1 → FitsOpen h (first_open c n)
  first_fits c h n next = record { next = next }

  entered_fits : (c : Config) (h : List Entry) (f : Frame) (b : Bool) → own (length h) h ≡ [] → EffectFits (length h) h (entered_by c h f b)
  entered_fits c h f true fresh =
      let e : Entry = record { by = length h; nth = 0; at = f.moment; act = act.Enter } in
      let first : Grows (length h) h (h ++ e ∷ []) = record { more = e ∷ []; is = refl; by = (refl, tt) } in
      let inner = open_fits c (h ++ e ∷ []) (first_open c (length h)) f (first_fits c (h ++ e ∷ []) (length h) (next_entered h e refl refl fresh)) in
      record { grows = grows_trans (length h) h (h ++ e ∷ []) (effect_open c (h ++ e ∷ []) (first_open c (length h)) f).journal first inner.grows; tag = inner.tag }
  entered_fits c h f false fresh = record { grows = record { more = []; is = refl; by = tt }; tag = tt }

  new_fits : (c : Config) (h : List Entry) (f : Frame) → own (length h) h ≡ [] → EffectFits (length h) h (effect_new c h f)
  unfolding answered added
  new_fits c h f fresh = entered_fits c h f (has_room c h (wanted c h call.Enter)) fresh

  pub effect_fits : (c : Config) (h : List Entry) (f : Frame) (o : Option TagState) → own (length h) h ≡ [] → has_ended o ≡ false → FitsTag h o → EffectFits (number_in h o) h (effect_at c h f o)
  effect_fits c h f None fresh here fits = new_fits c h f fresh
  effect_fits c h f (Some (Open s)) fresh here fits = open_fits c h s f fits
  effect_fits c h f (Some Ended) fresh here fits = absurd (false≢true (sym here))

-- ---- all tags

-- a session of another tag has another number
pub number_below : (h : List Entry) (r : OpenSession) → IsNext h r.number r.entries → r.number ≢ length h
number_below h r next same = let below = below_length (λ (e : Entry). e.act ≡ act.Enter) h r.number next.session in omega arith

pub open_next : (w : World) (other : ℕ) (r : OpenSession) → IsSound w → state_of other w.tags ≡ Some (Open r) → IsNext w.journal r.number r.entries
open_next w other r sound is = let fits : FitsOpen w.journal r = subst (λ (o : Option TagState). FitsTag w.journal o) is (sound.fits other) in fits.next

numbers_differ : (w : World) (tag other : ℕ) (r : OpenSession) (o : Option TagState) → IsSound w → state_of tag w.tags ≡ o → state_of other w.tags ≡ Some (Open r) → (tag ≡ other → ⊥) → r.number ≢ number_in w.journal o
numbers_differ w tag other r None sound at there differ = number_below w.journal r (open_next w other r sound there)
numbers_differ w tag other r (Some (Open s)) sound at there differ = λ same. differ (sound.apart tag other s r at there (sym same))
numbers_differ w tag other r (Some Ended) sound at there differ = number_below w.journal r (open_next w other r sound there)

pub tags_differ : (tag q : ℕ) → is_at (nat_cmp tag) q ≡ false → tag ≡ q → ⊥
tags_differ tag q other same = false≢true (sym other ∙ subst (λ (k : ℕ). is_at (nat_cmp tag) k ≡ true) same (at_self tag))

fits_put : (n : ℕ) (h : List Entry) (state : TagState) → TagFits n h state → FitsTag h (Some state)
fits_put n h Ended fits = tt
fits_put n h (Open s) fits = fits.1

fits_kept : Laws → (w : World) (tag q : ℕ) (h : List Entry) (o : Option TagState) → IsSound w → Grows (number_in w.journal (state_of tag w.tags)) w.journal h → state_of q w.tags ≡ o → (tag ≡ q → ⊥) → FitsTag w.journal o → FitsTag h o
fits_kept laws w tag q h None sound grows at differ fits = tt
fits_kept laws w tag q h (Some Ended) sound grows at differ fits = tt
fits_kept laws w tag q h (Some (Open r)) sound grows at differ fits =
    let n : ℕ = number_in w.journal (state_of tag w.tags) in
    record {
      next = next_kept laws.stay n r.number r.entries w.journal h grows (numbers_differ w tag q r (state_of tag w.tags) sound refl at differ) fits.next;
    }

pub number_put : (n : ℕ) (h : List Entry) (state : TagState) (s : OpenSession) → TagFits n h state → Some state ≡ Some (Open s) → s.number ≡ n
number_put n h state s fits is = open_number (Open s) s (subst (TagFits n h) same fits) refl
  where
    same : state ≡ Open s
    same = cc

    open_number : (x : TagState) (s : OpenSession) → TagFits n h x → x ≡ Open s → s.number ≡ n
    open_number Ended s fits is = absurd cc
    open_number (Open r) s fits is = ap (λ (x : OpenSession). x.number) (open_same r s is) ∙ fits.0
      where
        open_same : (r s : OpenSession) → Open r ≡ Open s → s ≡ r
        open_same r s is = cc

pub sound_put : Laws → (w : World) (tag : ℕ) (h : List Entry) (state : TagState) (tags : List (ℕ × TagState)) → IsSound w → Grows (number_in w.journal (state_of tag w.tags)) w.journal h
    → TagFits (number_in w.journal (state_of tag w.tags)) h state → IsPut tag state w.tags tags → IsSound (record { config = w.config; journal = h; tags = tags })
sound_put laws w tag h state tags sound grows fits put =
    let n = number_in w.journal (state_of tag w.tags) in
    let here_is : (q : ℕ) → is_at (nat_cmp tag) q ≡ true → state_of q tags ≡ Some state = λ q here. put q ∙ ap (λ b. cond b (Some state) (state_of q w.tags)) here in
    let other_is : (q : ℕ) → is_at (nat_cmp tag) q ≡ false → state_of q tags ≡ state_of q w.tags = λ q other. put q ∙ ap (λ b. cond b (Some state) (state_of q w.tags)) other in
    record {
      fits = λ q. by_test (is_at (nat_cmp tag) q)
          (λ here. subst (λ (o : Option TagState). FitsTag h o) (sym (here_is q here)) (fits_put n h state fits))
          (λ other. subst (λ (o : Option TagState). FitsTag h o) (sym (other_is q other)) (fits_kept laws w tag q h (state_of q w.tags) sound grows refl (tags_differ tag q other) (sound.fits q)));
      apart = λ q u s t at_q at_u same. by_test (is_at (nat_cmp tag) q)
          (λ q_here. by_test (is_at (nat_cmp tag) u)
          (λ u_here. sym (at_same tag q q_here) ∙ at_same tag u u_here)
          (λ u_other. absurd (numbers_differ w tag u t (state_of tag w.tags) sound refl (sym (other_is u u_other) ∙ at_u) (tags_differ tag u u_other)
          (sym same ∙ number_put n h state s fits (sym (here_is q q_here) ∙ at_q)))))
          (λ q_other. by_test (is_at (nat_cmp tag) u)
          (λ u_here. absurd (numbers_differ w tag q s (state_of tag w.tags) sound refl (sym (other_is q q_other) ∙ at_q) (tags_differ tag q q_other)
          (same ∙ number_put n h state t fits (sym (here_is u u_here) ∙ at_u))))
          (λ u_other. sound.apart q u s t (sym (other_is q q_other) ∙ at_q) (sym (other_is u u_other) ∙ at_u) same));
    }

-- two states put at one tag, one after the other
put_both : (tag : ℕ) (x y : TagState) (old mid new : List (ℕ × TagState)) → IsPut tag x old mid → IsPut tag y mid new → IsPut tag y old new
put_both tag x y old mid new first second = λ q. second q ∙ by_test (is_at (nat_cmp tag) q)
    (λ here. ap (λ b. cond b (Some y) (state_of q mid)) here ∙ sym (ap (λ b. cond b (Some y) (state_of q old)) here))
    (λ other. ap (λ b. cond b (Some y) (state_of q mid)) other ∙ first q ∙ ap (λ b. cond b (Some x) (state_of q old)) other ∙ sym (ap (λ b. cond b (Some y) (state_of q old)) other))

-- ---- a frame that was played

not_ended : (o p : Option TagState) → o ≡ p → has_ended p ≡ false → has_ended o ≡ false
not_ended o p same here = ap has_ended same ∙ here

pub sound_played : Laws → (w : World) (f : Frame) (o : Option TagState) (j : List Entry) (state : TagState) (mid new : List (ℕ × TagState)) (before after : List Frame) → IsSound w → own (length w.journal) w.journal ≡ []
    → has_ended (state_of f.tag w.tags) ≡ false → o ≡ state_of f.tag w.tags → Meets (effect_at w.config w.journal f o) state j before after → IsPut f.tag Ended w.tags mid → IsPut f.tag state mid new
    → IsSound (record { config = w.config; journal = j; tags = new })
sound_played laws w f o j state mid new before after sound fresh here same meets first second =
    let n = number_in w.journal (state_of f.tag w.tags) in
    let e = effect_at w.config w.journal f o in
    let fits = effect_fits laws w.config w.journal f o fresh (not_ended o (state_of f.tag w.tags) same here) (subst (λ (x : Option TagState). FitsTag w.journal x) (sym same) (sound.fits f.tag)) in
    let number : number_in w.journal o ≡ n = ap (number_in w.journal) same in
    let grows : Grows n w.journal j = subst (λ (k : ℕ). Grows k w.journal j) number (subst (λ (l : List Entry). Grows (number_in w.journal o) w.journal l) (sym meets.journal_is) fits.grows) in
    let at_tag : TagFits n j e.tag = subst (λ (k : ℕ). TagFits k j e.tag) number (subst (λ (l : List Entry). TagFits (number_in w.journal o) l e.tag) (sym meets.journal_is) fits.tag) in
    sound_put laws w f.tag j state new sound grows (subst (λ (x : TagState). TagFits n j x) (sym meets.tag_is) at_tag) (put_both f.tag Ended state w.tags mid new first second)

pub world_played : (w : World) (f : Frame) (o : Option TagState) (j : List Entry) (state : TagState) (mid new : List (ℕ × TagState)) (before after : List Frame) → o ≡ state_of f.tag w.tags
    → Meets (effect_at w.config w.journal f o) state j before after → mid ≡ with_tag f.tag Ended w.tags → new ≡ with_tag f.tag state mid
    → (let x : World = record { config = w.config; journal = j; tags = new } in x ≡ world_after w f) × (after ≡ before ++ (effect w f).answers)
world_played w f o j state mid new before after same meets first second =
    let at : effect_at w.config w.journal f o ≡ effect w f = ap (effect_at w.config w.journal f) same in
    let journal : j ≡ (effect w f).journal = meets.journal_is ∙ ap (λ (e : Effect). e.journal) at in
    let state_is : state ≡ (effect w f).tag = meets.tag_is ∙ ap (λ (e : Effect). e.tag) at in
    let tags : new ≡ with_tag f.tag (effect w f).tag w.tags = second ∙ ap (with_tag f.tag state) first ∙ put_twice f.tag Ended state w.tags ∙ ap (λ (x : TagState). with_tag f.tag x w.tags) state_is in
    let world : List Entry → List (ℕ × TagState) → World = λ h s. record { config = w.config; journal = h; tags = s } in
    (ap (λ (h : List Entry). world h new) journal ∙ ap (λ (s : List (ℕ × TagState)). world (effect w f).journal s) tags, meets.answers_are ∙ ap (λ (e : Effect). before ++ e.answers) at)

pub not_refused : (k : ℕ) (c : Bool) → (k ≡ 17 → ⊥) → (k ≡ 19 → ⊥) → c ≡ false → (k == 17 || k == 19 || c) ≡ false
not_refused k c a b e = grind (arith, nat_tests)
