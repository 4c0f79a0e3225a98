use Rattle.std.proofs.Common.{◌≤◌, ◌∙◌, ap, arith, map, length, string_bytes}
use Rattle.std.proofs.lemmas.List.{length-map}
use Rattle.std.proofs.lemmas.Result.{IfOk-weaker, IfErr-weaker}
use Rattle.clap.specs.Lexer.{usize_max}
use Rattle.clap.specs.Walk.{rows_of}
use Rattle.clap.specs.Matches.{found_of}
use Rattle.clap.specs.Simple.{App}
use Rattle.clap.specs.Takes.{takes}
use Rattle.command_words.proofs.FindingLemmas.{read}
use Rattle.command_words.proofs.PassLemmas.{taken}
use Rattle.command_words.proofs.parsing.parsed.Goals as goal

pub returns-clause-values : goal.returns-clause-values
returns-clause-values c =
    let words = map string_bytes c.args.words.now in
    IfOk-weaker c.try_get_matches_from.result _ _ (λ m told. read _ words (rows_of (found_of m)) c.requires.command c.requires.plain told) c.try_get_matches_from.ensures.matches

pub returns-clause-memory : goal.returns-clause-memory
returns-clause-memory c =
    let words = map string_bytes c.args.words.now in
    let bound : length words ≤ usize_max = rw length-map (omega arith) in
    let takes_them = ap (λ (a : App). takes a words) c.requires.command ∙ taken words bound c.requires.plain in
    IfErr-weaker c.try_get_matches_from.result _ _ (λ e told. told takes_them) c.try_get_matches_from.ensures.passes
