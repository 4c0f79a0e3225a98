use Rattle.tool_forms.proofs.LoadingLemmas.{one_counted}
use Rattle.std.proofs.Common.{List, ap, ◌∙◌}
use Rattle.etp_capture.specs.declared.frame.Frame.{Frame}
use Rattle.load_forms.specs.Tally.{plus, tally}
use Rattle.tool_forms.proofs.load.play_one.Goals as goal

pub returns-clause-counts : goal.returns-clause-counts
returns-clause-counts c = λ p at.
    let counted = c.in_ok-tally.ensures.counts ∙ ap (λ (l : List Frame). plus c.args.counted (tally l)) c.as_slice.ensures.value in
    one_counted c.in_ok-refused.refused p c.args.frame.now c.args.player.now c.play.new.self c.new-answers.result.items c.play.new.answers.items c.args.counted c.in_ok-tally.tally
    c.new-answers.ensures.items c.in_ok-refused.ensures.played counted at
