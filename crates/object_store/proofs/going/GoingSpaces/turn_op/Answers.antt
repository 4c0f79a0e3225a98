use Rattle.std.proofs.Common.{sym, subst}
use Rattle.object_store.specs.Going.{Turns}
use Rattle.object_store.proofs.GatheredLemmas.{drop-gone, removal-left}
use Rattle.object_store.proofs.going.GoingSpaces.turn_op.Goals as goal

pub returns-in-DropSpace-clause-each : goal.returns-in-DropSpace-clause-each
returns-in-DropSpace-clause-each c =
    let old = c.args.self.now in
    let items = c.args.queue.now.items in
    subst (λ op. Turns old c.add.new.self op items items) (sym c.in-DropSpace.is) (drop-gone old c.add.new.self c.in-DropSpace.path items c.add.ensures.each)

pub returns-in-DropObject-clause-each : goal.returns-in-DropObject-clause-each
returns-in-DropObject-clause-each c =
    let going = c.args.self.now in
    let items = c.args.queue.now.items in
    let after = c.turn_removal.new.queue.items in
    subst (λ op. Turns going going op items after) (sym c.in-DropObject.is) (removal-left going c.in-DropObject.uri items after c.turn_removal.ensures.items)
