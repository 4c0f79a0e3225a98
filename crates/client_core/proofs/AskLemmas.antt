-- Asks, by their steps.
use Rattle.std.specs.Prelude.{◌≡◌, ◌≤◌, ◌+◌, ◌*◌, ℕ, ℤ, Bool, true, false, not, ◌||◌, List, [], ◌∷◌, Option, Some, Result, Ok, Err, OnOk, length}
use Rattle.std.proofs.Common.{ap, arith, sym, ◌∙◌}
use Rattle.etp_frame.specs.declared.message.Message.{Message}
use Rattle.client_core.specs.Asking.{asked, asked_by, asked_under, asked_with, beginning, begun, due_of, is_close, is_spent, max_id, numbered, pieces}
use Rattle.client_core.specs.Messages.{message_of, request_message}
use Rattle.client_core.specs.State.{State, is_open}
use Rattle.client_core.specs.declared.ask.Ask.{Ask}
use Rattle.client_core.specs.declared.got.ClientError.TheVariants as error
use Rattle.client_core.specs.declared.state.Asked.{Asked}
use Rattle.client_core.specs.declared.state.Due.{Due}
use Rattle.client_core.specs.declared.state.Due.TheVariants as due
use Rattle.client_core.proofs.RefusalLemmas.{IsAnswer}

-- while the session is open, an ask is that of its message
pub asked_open : (s : State) (a : Ask) (moment : ℤ) (d : Option Due) (closes : Bool) (m : Message) → is_open s.heard.phase ≡ true → d ≡ due_of a → closes ≡ is_close a → m ≡ message_of moment a
    → asked_with d closes m s ≡ asked s a moment
unfolding asked
asked_open s a moment d closes m open_so due_so close_so message_so =
    (λ j. asked_with (due_so j) (close_so j) (message_so j) s)
    ∙ ap (λ b. asked_by (not b || is_spent s.next (pieces s (message_of moment a))) (due_of a) (is_close a) (message_of moment a) s) (sym open_so)

pub asked_shut : (s : State) (a : Ask) (moment : ℤ) → is_open s.heard.phase ≡ false → asked s a moment ≡ record { state = s; result = Err error.State }
unfolding asked
asked_shut s a moment shut_so = ap (λ b. asked_by (not b || is_spent s.next (pieces s (message_of moment a))) (due_of a) (is_close a) (message_of moment a) s) shut_so

by_answers : (b : Bool) (d : Option Due) (closes : Bool) (m : Message) (s : State) → IsAnswer (asked_by b d closes m s).result
by_answers true d closes m s = tt
by_answers false d closes m s = tt

-- no ask is answered by running out of memory
pub asked_answers : (s : State) (a : Ask) (moment : ℤ) → IsAnswer (asked s a moment).result
unfolding asked
asked_answers s a moment = by_answers (not (is_open s.heard.phase) || is_spent s.next (pieces s (message_of moment a))) (due_of a) (is_close a) (message_of moment a) s

-- a client that has one message to send, by which it asks for a session
pub begun_so : (moment : ℤ) (m : Message) (ms : List Message) (asks : List Asked) (out : List (List ℕ)) (s : State) → m ≡ request_message moment → ms ≡ m ∷ [] → asks ≡ asked_under 2 (Some due.Session)
    → out ≡ numbered 2 2 ms → s ≡ beginning asks out → s ≡ begun moment
unfolding begun
begun_so moment m ms asks out s message one waits bytes is = is ∙ (λ j. beginning (waits j) ((bytes ∙ ap (numbered 2 2) (one ∙ ap (λ x. x ∷ []) message)) j))

pub first_fits : (m : Message) (ms : List Message) → ms ≡ m ∷ [] → 2 + 2 * length ms ≤ max_id + 2
first_fits m ms is = rw is (omega arith)

-- what holds in any case
pub always : {A E : Type 0} {P : Type 0} (r : Result A E) → P → OnOk r P
always (Ok x) p = p
always (Err e) p = tt
