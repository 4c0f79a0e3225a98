use Rattle.std.proofs.Common.{◌∙◌, ap, arith}
use Rattle.std.proofs.lemmas.Nat.{be_bytes_8}
use Rattle.std.specs.Int.{w64, from_be_bytes}
use Rattle.journal_file.proofs.OpeningLemmas.{eight_are}
use Rattle.journal_file.proofs.reading.number_told.Goals as goal

pub returns-clause-value : goal.returns-clause-value
returns-clause-value c = c.from_be_bytes.ensures ∙ ap (from_be_bytes w64) (eight_are c.args.told.now c.requires)

pub returns-clause-again : goal.returns-clause-again
returns-clause-again c =
    be_bytes_8 c.args.told.now c.from_be_bytes.result c.requires (λ i. omega (arith, (c.type_inv.told i).fits)) (c.from_be_bytes.ensures ∙ ap (from_be_bytes w64) (eight_are c.args.told.now c.requires))
