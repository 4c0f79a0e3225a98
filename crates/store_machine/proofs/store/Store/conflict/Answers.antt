use Rattle.std.proofs.Common.{ap, ◌∙◌}
use Rattle.store_machine.specs.Clash.{conflict}
use Rattle.store_machine.proofs.store.Store.conflict.Goals as goal

pub returns : goal.returns
returns c =
    c.in_ok-place.ensures c.self.inside.journal.items c.self.invariant.marks ∙ ap (λ k. conflict c.args.staged.now.touched k.journal) c.self.view_is
