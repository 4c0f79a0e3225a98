-- The journal of a play is legal.
use Rattle.std.proofs.Common.{◌≡◌, ℕ, ℤ, ◌==◌, Bool, true, false, List, [], ◌++◌, length, None, Some, if◌then◌else◌, refl}
use Rattle.std.specs.Prelude.{IfSome}
use Rattle.std.specs.declared.option.Option.{Option}
use Rattle.etp_capture.specs.declared.frame.Frame.{Frame}
use Rattle.server_config.specs.declared.config.Config.{Config}
use Rattle.store_machine.specs.Answers.{added}
use Rattle.store_machine.specs.Growth.{CallsKeepLegal}
use Rattle.store_machine.specs.Laws.{IsCallAt, NextMayAsk}
use Rattle.store_machine.specs.Legal.{IsNext, Legal, MayAsk, own}
use Rattle.store_machine.specs.declared.call.StoreCall.{StoreCall}
use Rattle.store_machine.specs.declared.call.StoreCall.TheVariants as call
use Rattle.store_machine.specs.declared.journal.Entry.{Entry}
use Rattle.session_core.specs.Arriving.{Event}
use Rattle.session_core.specs.Run.{moment_of, takes}
use Rattle.session_core.specs.Session.{end_of}
use Rattle.session_core.specs.State.{State}
use Rattle.session_core.specs.declared.state.End.{End}
use Rattle.tool_forms.specs.Turns.{Effect, Turn, effect_after, effect_at, effect_entered, effect_open, entered_journal, entered_place, event_of, first_open, turn, turned}
use Rattle.tool_forms.specs.Sound.{FitsOpen, FitsTag}
use Rattle.tool_forms.specs.declared.tag.OpenSession.{OpenSession}
use Rattle.tool_forms.specs.declared.tag.TagState.{TagState}
use Rattle.tool_forms.specs.declared.tag.TagState.TheVariants.{Ended, Open}
use Rattle.session_core.proofs.StepLemmas.{asks_call}
use Rattle.tool_forms.proofs.SoundnessLemmas.{Laws, enter_next, first_fits}

after_legal : (c : Config) (f : Frame) (t : Turn) (o : Option End) → Legal c t.journal → Legal c (effect_after f t o).journal
after_legal c f t None legal = legal
after_legal c f t (Some e) legal = legal

kind_legal : (c : Config) (b : Bool) (x y : Effect) → Legal c x.journal → Legal c y.journal → Legal c (if b then x else y).journal
kind_legal c true x y p q = p
kind_legal c false x y p q = q

module _ (keep : CallsKeepLegal) where
  added_legal : (c : Config) (h : List Entry) (by nth : ℕ) (at : ℤ) (x : StoreCall) → Legal c h → MayAsk h by nth x → Legal c (h ++ added c h by nth at x)
  unfolding added
  added_legal c h by nth at x legal may = keep c h by nth at x legal may

module _ (laws : Laws) (may : NextMayAsk) (keep : CallsKeepLegal) where
  turned_legal : (c : Config) (h : List Entry) (at : ℤ) (s : OpenSession) (st : State) (o : Option StoreCall) → IfSome o (IsCallAt h) → IsNext h s.number s.entries → Legal c h → Legal c (turned c h at s st o).journal
  turned_legal c h at s st None is next legal = legal
  turned_legal c h at s st (Some x) is next legal = added_legal keep c h s.number s.entries at x legal (may h s.number s.entries x next is)

  open_legal : (c : Config) (h : List Entry) (s : OpenSession) (f : Frame) → FitsOpen h s → Legal c h → Legal c (effect_open c h s f).journal
  open_legal c h s f fits legal =
      let e : Event = event_of h f in
      let asks : IfSome (takes s.session e).call (IsCallAt h) = asks_call (takes s.session e).call h (laws.asks s.session e) in
      kind_legal c (f.kind == 3) _ _ legal
      (after_legal c f (turn c h s f) (end_of (turn c h s f).session.session.phase) (turned_legal c h (moment_of e) s (takes s.session e).state (takes s.session e).call asks fits.next legal))

  entered_legal : (c : Config) (h : List Entry) (f : Frame) (o : Option ℕ) → ((n : ℕ) → o ≡ Some n → IsNext h n 1) → Legal c h → Legal c (effect_entered c h f o).journal
  entered_legal c h f None next legal = legal
  entered_legal c h f (Some n) next legal = open_legal c h (first_open c n) f (first_fits laws c h n (next n refl)) legal

  pub at_legal : (c : Config) (h : List Entry) (f : Frame) (o : Option TagState) → own (length h) h ≡ [] → FitsTag h o → Legal c h → Legal c (effect_at c h f o).journal
  at_legal c h f None fresh fits legal =
      entered_legal c (entered_journal c h f) f (entered_place c h) (λ n is. enter_next c h f n fresh is) (added_legal keep c h 0 0 f.moment call.Enter legal tt)
  at_legal c h f (Some (Open s)) fresh fits legal = open_legal c h s f fits legal
  at_legal c h f (Some Ended) fresh fits legal = legal
