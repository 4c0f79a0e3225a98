-- A session that is let in plays its first frame, one that has ended its last.
use Rattle.std.proofs.Common.{◌≡◌, ℕ, List, [], ◌∷◌, ◌++◌, ap, sym, ◌∙◌, subst, refl, append_assoc, Some, None, Result, pos, Bool, if◌then◌else◌, eq-eqb}
use Rattle.std.specs.declared.option.Option.{Option}
use Rattle.std.specs.Prelude.{IfOk}
use Rattle.etp_values.specs.declared.memory.NoMemory.{NoMemory}
use Rattle.etp_capture.specs.declared.frame.Frame.{Frame}
use Rattle.server_config.specs.declared.config.Config.{Config}
use Rattle.store_machine.specs.Answers.{answered}
use Rattle.store_machine.specs.declared.journal.Entry.{Entry}
use Rattle.store_machine.specs.declared.call.Answer.{Answer}
use Rattle.store_machine.specs.declared.call.StoreCall.TheVariants.{Enter}
use Rattle.session_core.specs.State.{State, first_state}
use Rattle.session_core.specs.Session.{end_of}
use Rattle.session_core.specs.declared.state.End.{End}
use Rattle.tool_forms.specs.Turns.{Turn, Effect, messages, turn, effect_after, effect_open, effect_entered, effect_new, entered_journal, entered_place, place_in, end_frame}
use Rattle.tool_forms.specs.Plays.{Meets}
use Rattle.tool_forms.specs.declared.tag.TagState.{TagState}
use Rattle.tool_forms.specs.declared.tag.TagState.TheVariants.{Ended}
use Rattle.tool_forms.specs.declared.tag.Ending.TheVariants.{Session, PeerEnd, JournalFull}
use Rattle.tool_forms.specs.declared.tag.OpenSession.{OpenSession}

-- ---- entering

-- the place that the store gave, by its answer
pub place_is : (s c : Config) (h : List Entry) (a : Answer) (r o : Option ℕ) → s ≡ c → a ≡ answered s h Enter → r ≡ place_in a.reply → r ≡ o → entered_place c h ≡ o
place_is s c h a r o same is place known = ap (λ (k : Config). entered_place k h) (sym same) ∙ sym (ap (λ (b : Answer). place_in b.reply) is) ∙ sym place ∙ known

pub meets_new : (s c d : Config) (h i : List Entry) (f : Frame) (n : ℕ) (st : State) (r : Result TagState NoMemory) (j : List Entry) (before after : List Frame) → s ≡ c → d ≡ s
    → i ≡ entered_journal s h f → st ≡ first_state c n (pos 1) → entered_place c h ≡ Some n
    → IfOk r (λ state. Meets (effect_open d i (record { number = n; entries = 1; session = st }) f) state j before after) → IfOk r (λ state. Meets (effect_new c h f) state j before after)
meets_new s c d h i f n st r j before after same kept grown new place meets =
    let open_session : State → OpenSession = λ x. record { number = n; entries = 1; session = x } in
    let journal : i ≡ entered_journal c h f = grown ∙ ap (λ (k : Config). entered_journal k h f) same in
    let effect : effect_open d i (open_session st) f ≡ effect_new c h f =
    ap (λ (k : Config). effect_open k i (open_session st) f) (kept ∙ same) ∙ ap (λ (l : List Entry). effect_open c l (open_session st) f) journal
    ∙ ap (λ (x : State). effect_open c (entered_journal c h f) (open_session x) f) new ∙ sym (ap (effect_entered c (entered_journal c h f) f) place) in
    subst (λ (e : Effect). IfOk r (λ state. Meets e state j before after)) effect meets

-- a session for which the journal has no room
pub meets_full : (s c : Config) (h i : List Entry) (f : Frame) (before after : List Frame) → s ≡ c → i ≡ entered_journal s h f → entered_place c h ≡ None → after ≡ before ++ end_frame f JournalFull ∷ []
    → Meets (effect_new c h f) Ended i before after
meets_full s c h i f before after same grown place answers =
    let journal : i ≡ entered_journal c h f = grown ∙ ap (λ (k : Config). entered_journal k h f) same in
    let full : Effect = record { journal = entered_journal c h f; tag = Ended; answers = end_frame f JournalFull ∷ [] } in
    let meets : Meets full Ended i before after = record { journal_is = journal; tag_is = refl; answers_are = answers } in
    subst (λ (e : Effect). Meets e Ended i before after) (sym (ap (effect_entered c (entered_journal c h f) f) place)) meets

-- ---- ending

-- a session whose client has nothing more to say
pub meets_ended : (c : Config) (h : List Entry) (s : OpenSession) (f : Frame) (before after : List Frame) → f.kind ≡ 3 → after ≡ before ++ end_frame f PeerEnd ∷ [] → Meets (effect_open c h s f) Ended h before after
meets_ended c h s f before after kind answers =
    let ended : Effect = record { journal = h; tag = Ended; answers = end_frame f PeerEnd ∷ [] } in
    let effect : effect_open c h s f ≡ ended = ap (λ (b : Bool). if b then ended else effect_after f (turn c h s f) (end_of (turn c h s f).session.session.phase)) (eq-eqb f.kind 3 kind) in
    let meets : Meets ended Ended h before after = record { journal_is = refl; tag_is = refl; answers_are = answers } in
    subst (λ (e : Effect). Meets e Ended h before after) (sym effect) meets

-- a session that has ended by its own rules
pub meets_closed : (f : Frame) (t : Turn) (o : Option End) (e : End) (before mid after : List Frame) → o ≡ Some e → mid ≡ before ++ messages f t.session.session.out → after ≡ mid ++ end_frame f (Session e) ∷ []
    → Meets (effect_after f t o) Ended t.journal before after
meets_closed f t o e before mid after is sent ended =
    let closed : Meets (effect_after f t (Some e)) Ended t.journal before after = record {
      journal_is = refl;
      tag_is = refl;
      answers_are = ended ∙ ap (λ (l : List Frame). l ++ end_frame f (Session e) ∷ []) sent ∙ append_assoc before (messages f t.session.session.out) (end_frame f (Session e) ∷ []);
    } in
    subst (λ (x : Option End). Meets (effect_after f t x) Ended t.journal before after) (sym is) closed
