use Rattle.std.proofs.Common.{◌∙◌, ap, ap₂}
use Rattle.std.proofs.lemmas.Result.{IfOk-weaker}
use Rattle.clap.specs.Simple.{with_rule}
use Rattle.command_words.proofs.SettingLemmas.{nameless, nameless_app, helpless, helpless_app}
use Rattle.command_words.proofs.parsing.word_command.Goals as goal

pub returns : goal.returns
returns c =
    let set = helpless _ _ c.disable_help_flag.ensures ∙ ap helpless_app (nameless _ _ c.no_binary_name.ensures ∙ ap nameless_app c.new.ensures.app) in
    IfOk-weaker c.arg.result _ _ (λ r added. added.shape c.word_arg.ensures.local ∙ ap₂ with_rule set c.word_arg.ensures.rule) c.arg.ensures
