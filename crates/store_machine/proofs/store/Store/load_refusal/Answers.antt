use Rattle.std.proofs.Common.{◌≡◌, sym, subst}
use Rattle.std.specs.Option.{option_map}
use Rattle.std.specs.Prelude.{IfOk}
use Rattle.store_machine.specs.Channels.{channels_of, code_of}
use Rattle.store_machine.specs.Kept.{Keeps}
use Rattle.store_machine.specs.Loads.{load_refusal}
use Rattle.store_machine.proofs.store.Store.load_refusal.Goals as goal

pub invariant_of-self : goal.invariant_of-self
invariant_of-self c = let s = c.self.inside in subst (λ cs. Keeps s.config s.journal.items s.bytes s.contents cs s.alterations) (sym c.refusal.ensures.same) c.self.invariant

pub returns-clause-code : goal.returns-clause-code
returns-clause-code c =
    subst (λ k. IfOk c.refusal.result (λ r. r ≡ option_map code_of (load_refusal (channels_of k.config k.journal) c.args.load.now))) c.self.view_is
    (subst (λ cs. IfOk c.refusal.result (λ r. r ≡ option_map code_of (load_refusal cs c.args.load.now))) c.self.invariant.channels c.refusal.ensures.code)
