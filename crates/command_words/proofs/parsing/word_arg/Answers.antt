use Rattle.std.proofs.Common.{◌∙◌, ap}
use Rattle.clap.specs.Walk.{Rule, rule_of}
use Rattle.command_words.proofs.SettingLemmas.{some_and}
use Rattle.command_words.proofs.parsing.word_arg.Goals as goal

pub returns-clause-rule : goal.returns-clause-rule
returns-clause-rule c =
    let ranged = some_and c.num_args.result.num_vals _ c.num_args.ensures.1 in
    ap rule_of c.num_args.ensures.0 ∙ ap (λ (r : Rule). record r { range = c.num_args.result.num_vals }) c.new.ensures.rule
    ∙ rw ranged
