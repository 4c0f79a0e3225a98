use Rattle.std.proofs.Common.{IfOk, OnOk, ap, false, rules, subst, sym, true, w64, ◌≡◌, ◌∙◌}
use Rattle.std.proofs.lemmas.Int.{to_z-of_z}
use Rattle.client_core.specs.Messages.{message_of}
use Rattle.client_core.specs.State.{is_open}
use Rattle.client_core.proofs.AskLemmas.{always, asked_open, asked_shut}
use Rattle.client_core.proofs.client.Client.try_ask.Goals as goal

pub returns-then-not-is_open-clause-answer : goal.returns-then-not-is_open-clause-answer
returns-then-not-is_open-clause-answer c =
    let closed : c.is_open.result ≡ false = search rules in
    let shut = ap (λ t. is_open t.heard.phase) (sym c.self.view_is) ∙ sym c.is_open.ensures ∙ closed in
    subst (λ x. IfOk c.refuse.result (λ r. r ≡ x)) (sym (ap (λ t. t.result) (asked_shut c.args.self.now c.args.ask c.args.moment shut))) c.refuse.ensures

pub returns-then-not-is_open-clause-state : goal.returns-then-not-is_open-clause-state
returns-then-not-is_open-clause-state c =
    let closed : c.is_open.result ≡ false = search rules in
    let shut = ap (λ t. is_open t.heard.phase) (sym c.self.view_is) ∙ sym c.is_open.ensures ∙ closed in
    always c.refuse.result (sym (ap (λ t. t.state) (asked_shut c.args.self.now c.args.ask c.args.moment shut)))

pub returns-clause-answer : goal.returns-clause-answer
returns-clause-answer c =
    let opened : c.is_open.result ≡ true = search rules in
    let open_so = ap (λ t. is_open t.heard.phase) (sym c.self.view_is) ∙ sym c.is_open.ensures ∙ opened in
    let message = c.in_ok-message.ensures ∙ ap (λ z. message_of z c.args.ask) (to_z-of_z w64 c.args.moment c.ranges.moment) in
    let step = asked_open c.args.self.now c.args.ask c.args.moment c.due_of-due.result c.is_close-closes.result c.in_ok-message.message open_so c.due_of-due.ensures c.is_close-closes.ensures message in
    subst (λ t. IfOk c.ask_with.result (λ r. r ≡ t.result)) step c.ask_with.ensures.answer

pub returns-clause-state : goal.returns-clause-state
returns-clause-state c =
    let opened : c.is_open.result ≡ true = search rules in
    let open_so = ap (λ t. is_open t.heard.phase) (sym c.self.view_is) ∙ sym c.is_open.ensures ∙ opened in
    let message = c.in_ok-message.ensures ∙ ap (λ z. message_of z c.args.ask) (to_z-of_z w64 c.args.moment c.ranges.moment) in
    let step = asked_open c.args.self.now c.args.ask c.args.moment c.due_of-due.result c.is_close-closes.result c.in_ok-message.message open_so c.due_of-due.ensures c.is_close-closes.ensures message in
    subst (λ t. OnOk c.ask_with.result (c.ask_with.new.self ≡ t.state)) step c.ask_with.ensures.state
