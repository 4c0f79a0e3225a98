use Rattle.std.proofs.Common.{arith, ◌∙◌, ◌≡◌, ◌++◌, ◌∷◌, [], length, w64, to_z, of_z}
use Rattle.std.proofs.lemmas.Grind.{common_steps}
use Rattle.std.proofs.lemmas.Int.{to_z-of_z}
use Rattle.channel_store.specs.Store.{changed}
use Rattle.store_machine.specs.Channels.{what_of}
use Rattle.store_machine.specs.Loads.{load_act}
use Rattle.store_machine.proofs.LoadingLemmas.{refused-code, taken-code}
use Rattle.store_machine.proofs.load.add_load.Goals as goal

pub returns-in-Ok-clause-code : goal.returns-in-Ok-clause-code
returns-in-Ok-clause-code c = taken-code _ c.in-Ok.ensures.answer

pub returns-in-Ok-clause-added : goal.returns-in-Ok-clause-added
returns-in-Ok-clause-added c =
    let journal = c.args.journal.now.items in
    let moment : to_z w64 (of_z w64 c.args.at) ≡ c.args.at = to_z-of_z w64 c.args.at c.ranges.at in
    let act : c.in-Ok.act ≡ load_act c.args.load = c.in-Ok.ensures.act in
    let place : c.len.result ≡ length journal = grind (arith, common_steps) in
    let pushed : c.push.new.self.items ≡ journal ++ record { by = c.args.by; nth = c.args.nth; at = to_z w64 (of_z w64 c.args.at); act = c.in-Ok.act } ∷ [] = grind (arith, common_steps) in (
      pushed ∙ (λ j. journal ++ record { by = c.args.by; nth = c.args.nth; at = moment j; act = act j } ∷ []),
      c.in-Ok.ensures.channels ∙ (λ j. changed (place j) (moment j) (what_of (load_act c.args.load)) c.args.channels.now),
    )

pub returns-in_ok-refusal_code-in-Err-clause-code : goal.returns-in_ok-refusal_code-in-Err-clause-code
returns-in_ok-refusal_code-in-Err-clause-code c = refused-code c.in-Err.error _ _ c.in-Err.ensures.answer c.in_ok-refusal_code-in-Err.ensures
