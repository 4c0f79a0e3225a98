use Rattle.etp_serve.proofs.laws.laws.Goals as goal

pub returns : goal.returns
returns c = record {
  same = c.runs.ensures.same;
  next = c.runs.ensures.next;
  serial = c.serial.ensures.run;
  streams = c.run_streams.ensures.streams;
  idle = c.run_streams.ensures.idle;
  fronts = c.run_streams.ensures.fronts;
  mine = c.number_laws.ensures.own;
  one = c.number_laws.ensures.one;
  stay = c.number_laws.ensures.calls;
}
