use Rattle.std.proofs.Common.{◌∙◌, ap, codes, map, [], unwrap_or, Option, List}
use Rattle.std.proofs.lemmas.Result.{IfOk-weaker}
use Rattle.clap.specs.Matches.{found_of}
use Rattle.clap.specs.Walk.{Text}
use Rattle.clap.proofs.WalkLemmas.{raw_values-rows}
use Rattle.command_words.proofs.parsing.values_of.Goals as goal

pub returns-in-Some : goal.returns-in-Some
returns-in-Some c =
    let reads = c.get_strs.ensures ∙ raw_values-rows (found_of c.args.matches.now) (codes "word") in
    let same = ap (λ (o : Option (List Text)). unwrap_or o []) (rw c.in-Some.is at reads) in
    IfOk-weaker c.copied.result _ _ (λ _ copied. copied ∙ same) c.copied.ensures

pub returns-in-None : goal.returns-in-None
returns-in-None c =
    let reads = c.get_strs.ensures ∙ raw_values-rows (found_of c.args.matches.now) (codes "word") in
    ap (map (λ word. word.now)) c.new.ensures.items ∙ ap (λ (o : Option (List Text)). unwrap_or o []) (rw c.in-None.is at reads)
