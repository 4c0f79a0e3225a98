use Rattle.std.proofs.Common.{sym, ap, ◌∙◌}
use Rattle.std.specs.List.{list_any}
use Rattle.std.specs.Option.{option_copied}
use Rattle.tx_stage.specs.Patching.{concerns}
use Rattle.tx_stage.proofs.contents.Contents.untouched_numbers.Goals as goal

pub returns : goal.returns
returns c = (
  sym c.get.ensures ∙ ap option_copied c.in-Some.is,
  sym (c.is_concerned.ensures ∙ ap (list_any (concerns c.args.key.now)) c.as_slice.ensures.value) ∙ c.if-is_concerned.false,
  sym c.has_numbers.ensures ∙ c.if-not-has_numbers.false,
)
