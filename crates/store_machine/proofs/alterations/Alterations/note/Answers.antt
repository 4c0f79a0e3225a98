use Rattle.std.proofs.Common.{refl}
use Rattle.store_machine.proofs.MarkedLemmas.{marks-step}
use Rattle.store_machine.proofs.alterations.Alterations.note.Goals as goal

pub returns : goal.returns
returns c = λ history e m at keys.
    marks-step c.args.self.now _ history e c.args.altered.own c.args.altered.whole c.args.place m at keys c.note.ensures.places c.note-2.ensures.places c.note.ensures.past c.note-2.ensures.past refl
