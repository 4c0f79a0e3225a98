use Rattle.store_machine.proofs.alterations.Altered.by_ops.Goals as goal

pub returns : goal.returns
returns c = record { own_is = c.in_ok-own.ensures; whole_is = c.in_ok-whole.ensures }
