use Rattle.std.proofs.Common.{subst}
use Rattle.std.specs.Prelude.{ℕ, IfSome}
use Rattle.std.specs.declared.option.Option.{Option}
use Rattle.store_machine.specs.Legal.{IsNext}
use Rattle.store_machine.proofs.NumberLemmas.{may_ask}
use Rattle.check_store.proofs.sessions.ask.Goals as goal

pub ask-requires : goal.ask-requires
ask-requires c =
    let journal = c.args.store.now.journal in
    let next : IsNext journal c.args.by c.in-Some.nth = subst (λ (o : Option ℕ). IfSome o (IsNext journal c.args.by)) c.in-Some.is c.next_of.ensures in
    may_ask journal c.args.by c.in-Some.nth c.args.call next
