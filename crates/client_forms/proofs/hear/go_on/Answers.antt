use Rattle.std.proofs.Common.{arith}
use Rattle.std.proofs.lemmas.List.{take_all}
use Rattle.client_forms.specs.Work.{place}
use Rattle.client_forms.proofs.HearingLemmas.{gone_all, gone_none, gone_more, gone_last}
use Rattle.client_forms.proofs.WhyLemmas.{less_both, less_not, stop_later}
use Rattle.client_forms.proofs.hear.go_on.Goals as goal

pub loop-got-init : goal.loop-got-init
loop-got-init g c = record {
  gone = λ shown job stage there. gone_none shown job _ c.args.gots.now stage c.args.client.now c.args.io.now there;
  less = less_not c.args.io.now;
}

pub loop-got-preserved : goal.loop-got-preserved
loop-got-preserved g c = record {
  gone = λ shown job stage there.
      let h = c.loop-got.invariant.gone shown job stage there in
      gone_more shown job _ _
      c.args.gots.now c.loop-got.got-index c.got-item.result stage c.args.client.now c.loop-got.client c.step.new.client c.args.io.now c.loop-got.io c.step.new.io c.loop-got-test.true c.got-item.is h (c.in_default.ensures.steps shown job h.stage h.there);
  less = less_both c.args.io.now c.loop-got.io c.step.new.io c.loop-got.invariant.less c.in_default.ensures.why;
}

pub returns-in-Err-clause-steps : goal.returns-in-Err-clause-steps
returns-in-Err-clause-steps g c = λ shown job stage there.
    let h = c.loop-got.invariant.gone shown job stage there in
    gone_last shown job _ c.in-Err.stop
    c.args.gots.now c.loop-got.got-index c.got-item.result stage c.args.client.now c.loop-got.client c.args.io.now c.loop-got.io c.step.new.io c.loop-got-test.true c.got-item.is h (c.in-Err.ensures.steps shown job h.stage h.there)

pub returns-in-Err-clause-read : goal.returns-in-Err-clause-read
returns-in-Err-clause-read g c = λ e shown job stage there. let h = c.loop-got.invariant.gone shown job stage there in c.in-Err.ensures.read e shown job h.stage h.there

pub returns-clause-steps : goal.returns-clause-steps
returns-clause-steps g c = λ shown job stage there.
    gone_all shown job _ c.args.gots.now (place c.args.client.now stage) c.loop-got.client c.args.io.now c.loop-got.io c.loop-got.got-index (take_all c.loop-got.got-index c.args.gots.now (omega (arith, c.loop-got-test.false))) (c.loop-got.invariant.gone shown job stage there)

pub returns-in-Err-clause-why : goal.returns-in-Err-clause-why
returns-in-Err-clause-why g c = stop_later c.in-Err.stop c.args.io.now c.loop-got.io c.step.new.io c.loop-got.invariant.less c.in-Err.ensures.why
