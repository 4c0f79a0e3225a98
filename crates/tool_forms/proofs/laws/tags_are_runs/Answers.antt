use Rattle.tool_forms.proofs.SoundnessLemmas.{Laws}
use Rattle.tool_forms.proofs.TagRunLemmas.{play_is_runs}
use Rattle.tool_forms.proofs.laws.tags_are_runs.Goals as goal

pub returns : goal.returns
returns c =
    let numbers = c.number_laws.ensures in
    let laws : Laws = record {
      stay = numbers.stay;
      own_entries = numbers.own;
      asks = c.steps.ensures.asks;
    } in
    play_is_runs c.runs.ensures.same c.runs.ensures.next numbers.one laws numbers.fresh numbers.may c.growth_laws.ensures.legal
