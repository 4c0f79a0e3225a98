use Rattle.std.proofs.Common.{◌≡◌, ◌+◌, ◌++◌, ◌∷◌, [], ◌∙◌, ℕ, List, length, Some, subst}
use Rattle.std.specs.Int.{w64, to_be_bytes}
use Rattle.std.specs.Prelude.{IfSome}
use Rattle.std.specs.declared.option.Option.{Option}
use Rattle.journal_file.specs.Opening.{StandsAt, IsRecord}
use Rattle.journal_file.specs.declared.reading.Record.{Record}
use Rattle.journal_file.proofs.OpeningLemmas.{if_found, record_stands}
use Rattle.journal_file.proofs.reading.read_record.Goals as goal

pub returns-in-Some-clause-found : goal.returns-in-Some-clause-found
returns-in-Some-clause-found g c =
    let at = c.args.at in
    let size = c.in-Some.size in
    let told : (f : List ℕ) → g.D.Disk.seen c.args.disk.now ≡ Some f → StandsAt f at (to_be_bytes w64 size) =
    subst (λ (o : Option ℕ). IfSome o (λ n. (f : List ℕ) → g.D.Disk.seen c.args.disk.now ≡ Some f → StandsAt f at (to_be_bytes w64 n))) c.in-Some.is c.in_ok-size.ensures.told in
    if_found c.read_spelling.result (λ (r : Record). (f : List ℕ) → g.D.Disk.seen c.read_length.new.disk ≡ Some f → StandsAt f (at + 8) (r.spelling ++ r.next ∷ [])) (λ (r : Record). length r.spelling ≡ size)
    (λ (r : Record). (f : List ℕ) → g.D.Disk.seen c.args.disk.now ≡ Some f → IsRecord f at r.spelling r.next)
    (λ r body long f is. record_stands f at size r.spelling r.next (told f is) long (body f (c.read_length.ensures.rested.same ∙ is))) c.read_spelling.ensures.found c.read_spelling.ensures.size
