use Rattle.std.proofs.Common.{arith, subst}
use Rattle.std.specs.Prelude.{IfSome}
use Rattle.std.specs.declared.option.Option.{Option}
use Rattle.store_machine.specs.declared.call.StoreCall.{StoreCall}
use Rattle.session_core.specs.Run.{Asks}
use Rattle.tool_forms.proofs.GrowthLemmas.{own_fits}
use Rattle.tool_forms.proofs.turns.make_turn.Goals as goal

-- the own entries are no more than all, and the journal's length is a number of the machine
pub overflow_add-open_session : goal.overflow_add-open_session
overflow_add-open_session c =
    let fits = own_fits c.args.open_session.now.number c.args.open_session.now.entries c.args.store.now.journal c.ask.new.store.journal c.entries-before.result c.entries.result _
    c.in_ok-answer.ensures.journal c.requires.next.entries c.entries-before.ensures.len c.entries.ensures.len c.entries.type_inv in
    omega (arith, fits)

pub ask-requires : goal.ask-requires
ask-requires c =
    let asks : Asks c.in-Some.call = subst (λ (o : Option StoreCall). IfSome o Asks) c.in-Some.is c.in_ok-call.ensures.asks in
    c.number_laws.ensures.may c.args.store.now.journal c.args.open_session.now.number c.args.open_session.now.entries c.in-Some.call c.requires.next (asks c.args.store.now.journal)
