use Rattle.std.proofs.Common.{◌≡◌, ◌++◌, ℤ, List, ap, sym, ◌∙◌, subst, Some, None, rules, pos, w64, to_z, of_z}
use Rattle.std.proofs.lemmas.Int.{to_z-of_z}
use Rattle.std.specs.Prelude.{IfOk}
use Rattle.store_machine.specs.declared.call.StoreCall.TheVariants.{Enter}
use Rattle.store_machine.specs.Answers.{added}
use Rattle.store_machine.specs.Legal.{IsNext}
use Rattle.store_machine.specs.declared.journal.Entry.{Entry}
use Rattle.server_config.specs.declared.config.Config.{Config}
use Rattle.session_core.specs.State.{first_state}
use Rattle.tool_forms.specs.declared.tag.OpenSession.{OpenSession}
use Rattle.tool_forms.specs.Plays.{Meets}
use Rattle.tool_forms.specs.Turns.{effect_open}
use Rattle.tool_forms.specs.Sound.{FitsOpen}
use Rattle.tool_forms.proofs.EnteringLemmas.{place_is, meets_new, meets_full}
use Rattle.tool_forms.proofs.SoundnessLemmas.{enter_next}
use Rattle.tool_forms.proofs.turns.enter.Goals as goal

pub play_open-requires : goal.play_open-requires
play_open-requires c =
    let store = c.args.store.now in
    let moment : to_z w64 (of_z w64 c.args.frame.now.moment) ≡ c.args.frame.now.moment = to_z-of_z w64 c.args.frame.now.moment (search rules) in
    let grown = c.in_ok-answer.ensures.journal ∙ ap (λ (m : ℤ). store.journal ++ added store.config store.journal 0 0 m Enter) moment in
    let place = place_is store.config store.config store.journal c.in_ok-answer.answer c.place_in.result (Some c.in-Some.number) (λ i. store.config) c.in_ok-answer.ensures.answer c.place_in.ensures c.in-Some.is in
    let fits : FitsOpen c.ask.new.store.journal (record { number = c.in-Some.number; entries = 1; session = c.in_ok-session.session }) = record {
      next = subst (λ (h : List Entry). IsNext h c.in-Some.number 1) (sym grown) (enter_next store.config store.journal c.args.frame.now c.in-Some.number c.requires.fresh place);
    } in
    subst (λ (o : OpenSession). FitsOpen c.ask.new.store.journal o) (sym c.in_ok-open_session.ensures) fits

pub returns-clause-effect : goal.returns-clause-effect
returns-clause-effect c =
    let store = c.args.store.now in
    let moment : to_z w64 (of_z w64 c.args.frame.now.moment) ≡ c.args.frame.now.moment = to_z-of_z w64 c.args.frame.now.moment (search rules) in
    let grown = c.in_ok-answer.ensures.journal ∙ ap (λ (m : ℤ). store.journal ++ added store.config store.journal 0 0 m Enter) moment in
    let place = place_is store.config c.args.config.now store.journal c.in_ok-answer.answer c.place_in.result (Some c.in-Some.number) c.requires.same c.in_ok-answer.ensures.answer c.place_in.ensures c.in-Some.is in
    let new = c.in_ok-session.ensures ∙ ap (λ (k : Config). first_state k c.in-Some.number (pos 1)) c.in_ok-session_config.ensures in
    let effect = subst (λ (o : OpenSession). IfOk c.play_open.result (λ state. Meets (effect_open c.ask.new.store.config c.ask.new.store.journal o c.args.frame.now) state c.play_open.new.store.journal c.args.answers.now.items c.play_open.new.answers.items)) c.in_ok-open_session.ensures c.play_open.ensures.effect in
    meets_new store.config c.args.config.now c.ask.new.store.config store.journal c.ask.new.store.journal c.args.frame.now c.in-Some.number c.in_ok-session.session c.play_open.result
    c.play_open.new.store.journal c.args.answers.now.items c.play_open.new.answers.items c.requires.same c.ask.ensures.config grown new place effect

pub returns-in_default : goal.returns-in_default
returns-in_default c =
    let store = c.args.store.now in
    let moment : to_z w64 (of_z w64 c.args.frame.now.moment) ≡ c.args.frame.now.moment = to_z-of_z w64 c.args.frame.now.moment (search rules) in
    let grown = c.in_ok-answer.ensures.journal ∙ ap (λ (m : ℤ). store.journal ++ added store.config store.journal 0 0 m Enter) moment in
    let place = place_is store.config c.args.config.now store.journal c.in_ok-answer.answer c.place_in.result None c.requires.same c.in_ok-answer.ensures.answer c.place_in.ensures c.in_default.is in
    record {
      config = c.ask.ensures.config;
      effect = meets_full store.config c.args.config.now store.journal c.ask.new.store.journal c.args.frame.now c.args.answers.now.items c.push_end.new.answers.items c.requires.same grown place c.in_ok-push_end.ensures;
    }
