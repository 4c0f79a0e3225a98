-- One event: its call, its messages, and how it leaves the session.
use Rattle.std.proofs.Common.{◌≡◌, ℕ, ℤ, List, [], ◌∷◌, None, Some, Ok, Err, refl, ap, sym, ◌∙◌, subst, inl, inr}
use Rattle.std.specs.Prelude.{IfNone, IfSome, OnErr, Result}
use Rattle.std.specs.declared.option.Option.{Option}
use Rattle.std.specs.Option.{option_map}
use Rattle.server_config.specs.declared.config.Config.{Config}
use Rattle.store_machine.specs.declared.journal.Entry.{Entry}
use Rattle.store_machine.specs.declared.call.StoreCall.{StoreCall}
use Rattle.store_machine.specs.declared.call.Answer.{Answer}
use Rattle.store_machine.specs.Answers.{added}
use Rattle.store_hub.specs.Words.{Known}
use Rattle.store_hub.specs.Notes.{noted, Answers, Refuses}
use Rattle.etp_outside.specs.Talk.{Talk}
use Rattle.session_core.specs.Run.{hears}
use Rattle.session_core.specs.Session.{end_of}
use Rattle.session_core.specs.State.{State}
use Rattle.session_core.specs.declared.state.End.{End}
use Rattle.session_core.specs.declared.state.End.TheVariants as end
use Rattle.etp_serve.specs.Ends.{ended_of}
use Rattle.etp_serve.specs.Steps.{Settles, Breaks, Does, Finishes, Stops}
use Rattle.etp_serve.specs.declared.ended.Ended.{Ended}
use Rattle.etp_serve.specs.declared.ended.Ended.TheVariants.{PeerEnd, LinkFault}
use Rattle.etp_serve.specs.declared.steps.Asked.{Asked}

-- ---- by cases on what a call gave

pub on_err_all : {T E : Type 0} (r : Result T E) (P : Type 0) → P → OnErr r P
on_err_all (Ok x) P p = tt
on_err_all (Err e) P p = p

pub if_none_all : {X : Type 0} (o : Option X) (P : Type 0) → P → IfNone o P
if_none_all None P p = p
if_none_all (Some x) P p = tt

-- ---- the call

-- an answer adds nothing to what was met
noted_met : (log es : List Entry) (v : Known) → (noted log es v).met ≡ v.met
noted_met log [] v = refl
noted_met log (e ∷ es) v = refl

pub answers_met : (config : Config) (n nth : ℕ) (at : ℤ) (call : StoreCall) (v : Known) (a : Answer) (w : Known) → Answers config n nth at call v a w → w.met ≡ v.met
answers_met config n nth at call v a w ans =
    ap (λ (x : Known). x.met) ans.view ∙ noted_met ans.log (added config ans.log n nth at call) (record v { missed = ans.missed })

pub refuses_met : (n : ℕ) (v w : Known) → Refuses n v w → w.met ≡ v.met
refuses_met n v w no_room = ap (λ (x : Known). x.met) no_room.view

module _ (config : Config) (n nth : ℕ) (at : ℤ) (v w : Known) where
  pub settles_none : (o : Option StoreCall) (s : State) → o ≡ None → Settles config n nth at o v v s s
  settles_none o s is = subst (λ (x : Option StoreCall). Settles config n nth at x v v s s) (sym is) (refl, refl)

  pub settles_some : (o : Option StoreCall) (call : StoreCall) (s t : State) (a : Answer) → o ≡ Some call → Answers config n nth at call v a w → t ≡ hears s a → Settles config n nth at o v w s t
  settles_some o call s t a is answers now = subst (λ (x : Option StoreCall). Settles config n nth at x v w s t) (sym is) (a, answers, now)

  pub breaks_answered : (o : Option StoreCall) (call : StoreCall) (a : Answer) → o ≡ Some call → Answers config n nth at call v a w → Breaks config n nth at o v w
  breaks_answered o call a is answers = subst (λ (x : Option StoreCall). Breaks config n nth at x v w) (sym is) (inr (a, answers))

  pub breaks_refused : (o : Option StoreCall) (call : StoreCall) → o ≡ Some call → Refuses n v w → Breaks config n nth at o v w
  breaks_refused o call is refuses = subst (λ (x : Option StoreCall). Breaks config n nth at x v w) (sym is) (inl refuses)

-- ---- the end

pub goes_by : (o : Option End) (r : Option Ended) → r ≡ option_map ended_of o → IfNone r (o ≡ None)
goes_by None None is = refl
goes_by None (Some x) is = tt
goes_by (Some e) None is = absurd (cc is)
goes_by (Some e) (Some x) is = tt

pub peer_by : (o : Option End) (r : Option Ended) → r ≡ option_map ended_of o → r ≡ Some PeerEnd → ⊥
peer_by None r is peer = absurd (cc (is, peer))
peer_by (Some end.Closed) r is peer = absurd (cc (is, peer))
peer_by (Some (end.Refused code)) r is peer = absurd (cc (is, peer))
peer_by (Some end.IdsSpent) r is peer = absurd (cc (is, peer))

pub fault_by : (o : Option End) (r : Option Ended) → r ≡ option_map ended_of o → r ≡ Some LinkFault → ⊥
fault_by None r is fault = absurd (cc (is, fault))
fault_by (Some end.Closed) r is fault = absurd (cc (is, fault))
fault_by (Some (end.Refused code)) r is fault = absurd (cc (is, fault))
fault_by (Some end.IdsSpent) r is fault = absurd (cc (is, fault))

module _ (config : Config) (n nth : ℕ) (asked : Asked) (v w : Known) (s : State) (a b : Option Talk) where
  finishes_as : (e : End) → Finishes config n nth asked v w s a b e → Stops config n nth asked v w s a b (ended_of e)
  finishes_as end.Closed done = done
  finishes_as (end.Refused code) done = done
  finishes_as end.IdsSpent done = done

  stops_at : (t : State) (o : Option End) (r : Option Ended) → end_of t.phase ≡ o → r ≡ option_map ended_of o → Does config n nth asked v w s t a b → IfSome r (Stops config n nth asked v w s a b)
  stops_at t None None at is done = tt
  stops_at t None (Some x) at is done = absurd (cc is)
  stops_at t (Some e) None at is done = absurd (cc is)
  stops_at t (Some e) (Some x) at is done =
      let same : ended_of e ≡ x = cc is in
      subst (Stops config n nth asked v w s a b) same (finishes_as e record { after = t; does = done; ends = at })

  pub stops_by : (t : State) (r : Option Ended) → r ≡ option_map ended_of (end_of t.phase) → Does config n nth asked v w s t a b → IfSome r (Stops config n nth asked v w s a b)
  stops_by t r is done = stops_at t (end_of t.phase) r refl is done
