use Rattle.std.proofs.Common.{◌≡◌, cond, None, subst}
use Rattle.std.specs.Map.{lookup}
use Rattle.array_store.specs.Table.{same_key, array_in, is_in_space}
use Rattle.array_store.proofs.SoundLemmas.{sound-drop}
use Rattle.array_store.proofs.store.ArrayStore.drop_space.Goals as goal

pub invariant_of-self : goal.invariant_of-self
invariant_of-self c = sound-drop c.self.inside.arrays.entries c.drop_space.new.arrays.entries (is_in_space c.args.path.now) c.self.invariant c.drop_space.ensures.each

pub returns-clause-each : goal.returns-clause-each
returns-clause-each c = λ q. subst (λ t. lookup (same_key q) c.drop_space.new.arrays.entries ≡ cond (is_in_space c.args.path.now q) None (array_in t q)) c.self.view_is (c.drop_space.ensures.each q)
