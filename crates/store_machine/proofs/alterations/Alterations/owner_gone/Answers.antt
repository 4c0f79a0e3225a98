use Rattle.std.proofs.Common.{sym, subst, refl, ◌≡◌, List, IfOk, None}
use Rattle.store_machine.specs.declared.journal.Entry.{Entry}
use Rattle.store_machine.specs.Marking.{Marks, owner_clash}
use Rattle.store_machine.proofs.alterations.Alterations.owner_gone.Goals as goal

pub returns-in-Space : goal.returns-in-Space
returns-in-Space c = λ history m. subst (λ k. None ≡ owner_clash k c.args.from history) (sym c.in-Space.is) refl

pub returns-in-Object : goal.returns-in-Object
returns-in-Object c =
    subst (λ k. IfOk c.space_gone.result (λ p. (history : List Entry) → Marks c.args.self.now history → p ≡ owner_clash k c.args.from history)) (sym c.in-Object.is) c.space_gone.ensures

pub returns-in-Array : goal.returns-in-Array
returns-in-Array c =
    subst (λ k. IfOk c.array_gone.result (λ p. (history : List Entry) → Marks c.args.self.now history → p ≡ owner_clash k c.args.from history)) (sym c.in-Array.is) c.array_gone.ensures
