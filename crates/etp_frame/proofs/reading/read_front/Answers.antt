use Rattle.std.proofs.Common.{sym}
use Rattle.etp_frame.proofs.ReadingLemmas.{refused_header, not_admitted, unknown_kind, in_table}
use Rattle.etp_frame.proofs.reading.read_front.Goals as goal

pub returns-in-Err-clause-refused : goal.returns-in-Err-clause-refused
returns-in-Err-clause-refused c = λ other. refused_header c.args.sender c.args.bytes.now c.in-Err.error (c.in-Err.ensures.gives other)

pub returns-in-Err-admit-clause-refused : goal.returns-in-Err-admit-clause-refused
returns-in-Err-admit-clause-refused c = λ other. not_admitted c.args.sender c.args.bytes.now c.in-Ok.front c.in-Err-admit.error c.in-Ok.ensures.gives (sym c.in-Err-admit.ensures)

pub returns-in_default-body_place-clause-refused : goal.returns-in_default-body_place-clause-refused
returns-in_default-body_place-clause-refused c = λ other. unknown_kind c.args.sender c.args.bytes.now c.in-Ok.front c.in-Ok.ensures.gives (sym c.in_default.ensures) (sym c.in_default-body_place.ensures)

pub returns-clause-front : goal.returns-clause-front
returns-clause-front c = record { header = c.in-Ok.ensures.gives; plain = sym c.in_default.ensures; sent = sym c.in-Some.ensures }

pub returns-clause-place : goal.returns-clause-place
returns-clause-place c = in_table c.args.sender c.in-Ok.front.0 c.in-Some.place (sym c.in-Some.ensures)
