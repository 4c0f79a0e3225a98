use Rattle.std.proofs.Common.{ap, ◌∙◌, fold}
use Rattle.array_store.specs.Going.{goes}
use Rattle.array_store.specs.Operations.{array_after}
use Rattle.array_store.specs.Table.{Arrays, array_among, array_in}
use Rattle.array_store.proofs.SoundLemmas.{sound-drop}
use Rattle.array_store.proofs.store.ArrayStore.take_out.Goals as goal

pub invariant_of-self : goal.invariant_of-self
invariant_of-self c = sound-drop c.self.inside.arrays.entries c.drop_going.new.arrays.entries (goes c.gather-left.new.self) c.self.invariant c.drop_going.ensures.each

pub returns-clause-each : goal.returns-clause-each
returns-clause-each c = record {
  arrays = λ key.
      ap (λ b. fold (array_after key) b c.gather-left.result) (c.drop_going.ensures.each key)
      ∙ c.gather-left.ensures.each key (array_among c.self.inside.arrays.entries key)
      ∙ ap (λ (t : Arrays). fold (array_after key) (array_in t key) c.args.ops) c.self.view_is;
}
