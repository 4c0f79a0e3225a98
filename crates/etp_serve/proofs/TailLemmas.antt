-- What a turn's message and its poll leave, by what carrying them out gave.
use Rattle.std.proofs.Common.{◌≡◌, ◌≤◌, ℕ, ℤ, pos, List, [], ◌∷◌, ◌++◌, length, None, Some, subst}
use Rattle.std.specs.Prelude.{IfNone, IfSome}
use Rattle.std.specs.declared.option.Option.{Option}
use Rattle.server_config.specs.declared.config.Config.{Config}
use Rattle.store_machine.specs.Laws.{IsCallAt}
use Rattle.turn_book.specs.Lists.{own}
use Rattle.turn_book.specs.Steps.{hearing}
use Rattle.store_hub.specs.Words.{Known, by_of}
use Rattle.etp_outside.specs.Told.{Told}
use Rattle.etp_outside.specs.Talk.{Talk, Takes}
use Rattle.etp_outside.specs.declared.link.Item.TheVariants.{Message}
use Rattle.session_core.specs.Arriving.{Receives, Polls}
use Rattle.session_core.specs.Run.{takes}
use Rattle.session_core.specs.Session.{end_of}
use Rattle.session_core.specs.State.{State}
use Rattle.etp_serve.specs.Laws.{Laws}
use Rattle.etp_serve.specs.Served.{Serves, IsBeforeTurn, IsWithinTurn}
use Rattle.etp_serve.specs.Steps.{Does, Stops}
use Rattle.etp_serve.specs.declared.ended.Ended.{Ended}
use Rattle.etp_serve.specs.declared.steps.Asked.{Asked}
use Rattle.etp_serve.proofs.TurnLemmas.{message_stops, message_done, poll_stops, poll_done}

module _ (laws : Laws) (config : Config) (n : ℕ) (v w : Known) (s st : State) (a b b' : Option Talk) (c d : Option (List ℤ)) (bytes : List ℕ) (m : ℤ) (asked : Asked) (nth : ℕ)
    (came : Told a b (Takes (Message bytes))) (told : Told c d (λ x y. y ≡ x ++ m ∷ [])) (is : (takes s (Receives bytes m)).call ≡ asked.call) (state : st ≡ (takes s (Receives bytes m)).state)
    (calls : IfSome asked.call (IsCallAt v.seen)) (entries : length (own by_of n v.seen) ≡ nth) (now : asked.at ≡ m) where
  pub message_goes : (t : State) (r : Option Ended) → IfNone r (Does config n nth asked v w st t b b') → IfNone r (end_of t.phase ≡ None)
      → IfNone r ((a0 : Option Talk) (c0 : Option (List ℤ)) → IsBeforeTurn config n a0 c0 v s a c → IsWithinTurn config n a0 c0 w t b' d)
  message_goes t None does going = λ a0 c0 turn.
      message_done laws config n a0 c0 v s a b c d bytes m turn came told asked nth w b' is calls entries now t (subst (λ (x : State). Does config n nth asked v w x t b b') state does) going
  message_goes t (Some end) does going = tt

  pub message_ends : (r : Option Ended) → IfSome r (Stops config n nth asked v w st b b')
      → IfSome r (λ end. (a0 : Option Talk) (c0 : Option (List ℤ)) → IsBeforeTurn config n a0 c0 v s a c → Serves end config n w a0 b' c0 d)
  message_ends None stops = tt
  message_ends (Some end) stops = λ a0 c0 turn.
      message_stops laws config n a0 c0 v s a b c d bytes m turn came told asked nth w b' is calls entries now end (subst (λ (x : State). Stops config n nth asked v w x b b' end) state stops)

module _ (laws : Laws) (config : Config) (n k : ℕ) (u v w : Known) (s st : State) (b b' : Option Talk) (f : ℕ) (asked : Asked) (nth : ℕ)
    (number : k ≡ n) (least : length u.seen ≤ f) (found : v ≡ hearing f u) (is : (takes s (Polls f)).call ≡ asked.call) (state : st ≡ (takes s (Polls f)).state)
    (calls : IfSome asked.call (IsCallAt v.seen)) (entries : length (own by_of k v.seen) ≡ nth) (now : asked.at ≡ pos 0) where
  pub poll_goes : (t : State) (r : Option Ended) → IfNone r (Does config k nth asked v w st t b b') → IfNone r (end_of t.phase ≡ None)
      → IfNone r ((a0 : Option Talk) (c0 c : Option (List ℤ)) → IsWithinTurn config n a0 c0 u s b c → IsBeforeTurn config n a0 c0 w t b' c)
  poll_goes t None does going = λ a0 c0 c turn.
      poll_done laws config n a0 c0 u v s b c f turn least found asked nth w b' is calls (subst (λ (x : ℕ). length (own by_of x v.seen) ≡ nth) number entries) now t
      (subst (λ (x : State). Does config n nth asked v w x t b b') state (subst (λ (x : ℕ). Does config x nth asked v w st t b b') number does)) going
  poll_goes t (Some end) does going = tt

  pub poll_ends : (r : Option Ended) → IfSome r (Stops config k nth asked v w st b b')
      → IfSome r (λ end. (a0 : Option Talk) (c0 c : Option (List ℤ)) → IsWithinTurn config n a0 c0 u s b c → Serves end config n w a0 b' c0 c)
  poll_ends None stops = tt
  poll_ends (Some end) stops = λ a0 c0 c turn.
      poll_stops laws config n a0 c0 u v s b c f turn least found asked nth w b' is calls (subst (λ (x : ℕ). length (own by_of x v.seen) ≡ nth) number entries) now end
      (subst (λ (x : State). Stops config n nth asked v w x b b' end) state (subst (λ (x : ℕ). Stops config x nth asked v w st b b' end) number stops))
