use Rattle.std.proofs.Common.{ap}
use Rattle.client_forms.proofs.ReadLemmas.{all_err}
use Rattle.client_forms.proofs.WhyLemmas.{less_both, less_not, stop_later}
use Rattle.client_forms.proofs.run.hear_all.Goals as goal

pub loop-init : goal.loop-init
loop-init g c = record { going = λ shown job x h. h; less = less_not c.args.io.now }

pub loop-preserved : goal.loop-preserved
loop-preserved g c = record {
  going = λ shown job x h. c.in_default.ensures.turns shown job x (c.loop.invariant.going shown job x h);
  less = less_both c.args.io.now c.loop.io c.turn.new.io c.loop.invariant.less c.in_default.ensures.why;
}

pub returns-in-Err-clause-ended : goal.returns-in-Err-clause-ended
returns-in-Err-clause-ended g c = λ shown job x h. c.in-Err.ensures.turns shown job x (c.loop.invariant.going shown job x h)

pub returns-in-Err-clause-read : goal.returns-in-Err-clause-read
returns-in-Err-clause-read g c = λ e shown job x h.
    let k = c.loop.invariant.going shown job x h in c.in-Err.ensures.read (ap all_err e) shown job k.stage k.there

pub returns-in-Err-clause-why : goal.returns-in-Err-clause-why
returns-in-Err-clause-why g c = stop_later c.in-Err.stop c.args.io.now c.loop.io c.turn.new.io c.loop.invariant.less c.in-Err.ensures.why
