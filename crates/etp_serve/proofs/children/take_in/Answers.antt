use Rattle.etp_serve.specs.Accepted.{end_number}
use Rattle.etp_serve.proofs.AcceptLemmas.{took_as}
use Rattle.etp_serve.proofs.children.take_in.Goals as goal

pub returns-clause-back : goal.returns-clause-back
returns-clause-back g c =
    let f = c.args.finished in
    took_as (g.A.Listener.backs c.args.door.now) (g.A.Listener.backs c.back.new.self) (g.A.Listener.given c.args.door.now) c.number-number.result f.pass.number c.end_number_of.result (end_number f.end) (g.A.Link.Link.faults f.link) (g.A.Link.Link.ended f.link) (g.A.Link.Link.talk f.link)
    c.number-number.ensures c.end_number_of.ensures c.back.ensures.back
