use Rattle.store_machine.proofs.NumberLemmas.{fresh-number, door-session, number-stays, entries-of_session, may_ask, call-stays, entries-one, enter-is}
use Rattle.store_machine.proofs.laws.number_laws.Goals as goal

pub returns-clause-door : goal.returns-clause-door
returns-clause-door c = door-session

pub returns-clause-stay : goal.returns-clause-stay
returns-clause-stay c = number-stays

pub returns-clause-own : goal.returns-clause-own
returns-clause-own c = entries-of_session

pub returns-clause-fresh : goal.returns-clause-fresh
returns-clause-fresh c = fresh-number

pub returns-clause-may : goal.returns-clause-may
returns-clause-may c history by nth call next asks = may_ask history by nth call next

pub returns-clause-calls : goal.returns-clause-calls
returns-clause-calls c = call-stays

pub returns-clause-one : goal.returns-clause-one
returns-clause-one c = entries-one

pub returns-clause-enters : goal.returns-clause-enters
returns-clause-enters c = enter-is
