use Rattle.std.proofs.Common.{◌≡◌, ℤ, subst, w64, to_z, of_z, rules, FitsSigned}
use Rattle.std.specs.Prelude.{IfSome}
use Rattle.std.specs.declared.option.Option.{Option}
use Rattle.std.proofs.lemmas.Int.{to_z-of_z}
use Rattle.std.proofs.lemmas.Result.{on_ok_weaker}
use Rattle.store_machine.specs.Laws.{IsCallAt}
use Rattle.store_machine.specs.declared.call.StoreCall.{StoreCall}
use Rattle.store_hub.specs.Notes.{Answers}
use Rattle.store_hub.specs.Passes.{known, config_of}
use Rattle.session_core.specs.Run.{hears}
use Rattle.etp_serve.specs.Steps.{Settles, Breaks}
use Rattle.etp_serve.proofs.SettlingLemmas.{on_err_all, settles_none, settles_some, breaks_answered, breaks_refused, answers_met, refuses_met}
use Rattle.etp_serve.proofs.steps.ask_store.Goals as goal

pub ask-requires-clause-call : goal.ask-requires-clause-call
ask-requires-clause-call g c = subst (λ (o : Option StoreCall). IfSome o (IsCallAt (known c.args.pass.now).seen)) c.in-Some.is c.requires.call

pub returns-in_default-clause-ok : goal.returns-in_default-clause-ok
returns-in_default-clause-ok g c =
    settles_none (config_of c.args.hub.now) c.args.pass.now.number c.args.pass.now.entries c.args.asked.at (known c.args.pass.now) (known c.args.pass.now) c.args.asked.call c.args.session.now c.in_default.is

pub returns-in-Ok-clause-ok : goal.returns-in-Ok-clause-ok
returns-in-Ok-clause-ok g c =
    let config = config_of c.args.hub.now in
    let pass = c.args.pass.now in
    let at : ℤ = c.args.asked.at in
    let fits : FitsSigned w64 at = search rules in
    let answers : Answers config pass.number pass.entries at c.in-Some.call (known pass) c.in-Ok.answer (known c.ask.new.pass) =
    subst (λ (m : ℤ). Answers config pass.number pass.entries m c.in-Some.call (known pass) c.in-Ok.answer (known c.ask.new.pass)) (to_z-of_z w64 at fits) c.in-Ok.ensures.ok in
    on_ok_weaker {P = c.give.new.self ≡ hears c.args.session.now c.in-Ok.answer} {Q = Settles config pass.number pass.entries at c.args.asked.call (known pass) (known c.ask.new.pass) c.args.session.now c.give.new.self} c.give.result
    (λ now. settles_some config pass.number pass.entries at (known pass) (known c.ask.new.pass) c.args.asked.call c.in-Some.call c.args.session.now c.give.new.self c.in-Ok.answer c.in-Some.is answers now) c.give.ensures

pub returns-in-Ok-clause-err : goal.returns-in-Ok-clause-err
returns-in-Ok-clause-err g c =
    let config = config_of c.args.hub.now in
    let pass = c.args.pass.now in
    let at : ℤ = c.args.asked.at in
    let fits : FitsSigned w64 at = search rules in
    let answers : Answers config pass.number pass.entries at c.in-Some.call (known pass) c.in-Ok.answer (known c.ask.new.pass) =
    subst (λ (m : ℤ). Answers config pass.number pass.entries m c.in-Some.call (known pass) c.in-Ok.answer (known c.ask.new.pass)) (to_z-of_z w64 at fits) c.in-Ok.ensures.ok in
    on_err_all c.give.result (Breaks config pass.number pass.entries at c.args.asked.call (known pass) (known c.ask.new.pass))
    (breaks_answered config pass.number pass.entries at (known pass) (known c.ask.new.pass) c.args.asked.call c.in-Some.call c.in-Ok.answer c.in-Some.is answers)

pub returns-in-Err-clause-err : goal.returns-in-Err-clause-err
returns-in-Err-clause-err g c =
    breaks_refused (config_of c.args.hub.now) c.args.pass.now.number c.args.pass.now.entries c.args.asked.at (known c.args.pass.now) (known c.ask.new.pass) c.args.asked.call c.in-Some.call c.in-Some.is c.in-Err.ensures.err

pub returns-in-Ok-clause-met : goal.returns-in-Ok-clause-met
returns-in-Ok-clause-met g c =
    let pass = c.args.pass.now in
    answers_met (config_of c.args.hub.now) pass.number pass.entries (to_z w64 (of_z w64 c.args.asked.at)) c.in-Some.call (known pass) c.in-Ok.answer (known c.ask.new.pass) c.in-Ok.ensures.ok

pub returns-in-Err-clause-met : goal.returns-in-Err-clause-met
returns-in-Err-clause-met g c = refuses_met c.args.pass.now.number (known c.args.pass.now) (known c.ask.new.pass) c.in-Err.ensures.err
