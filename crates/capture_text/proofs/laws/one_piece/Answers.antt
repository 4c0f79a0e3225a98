use Rattle.capture_text.proofs.PieceLemmas.{number_one, bytes_one, quoted_one}
use Rattle.capture_text.proofs.laws.one_piece.Goals as goal

pub returns-clause-number : goal.returns-clause-number
returns-clause-number c = number_one

pub returns-clause-bytes : goal.returns-clause-bytes
returns-clause-bytes c = bytes_one

pub returns-clause-quoted : goal.returns-clause-quoted
returns-clause-quoted c = quoted_one
