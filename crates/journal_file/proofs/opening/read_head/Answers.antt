use Rattle.std.proofs.Common.{rules, ◌≡◌, ◌++◌, ◌∷◌, [], ℕ, List, length, Some, arith}
use Rattle.journal_file.specs.Layout.{head}
use Rattle.journal_file.specs.Opening.{IsBegun, IsRefusal, IsHeadRefusal}
use Rattle.journal_file.specs.declared.error.JournalError.{JournalError}
use Rattle.journal_file.proofs.OpeningLemmas.{if_ok, if_err, head_begun, head_refused}
use Rattle.journal_file.proofs.opening.read_head.Goals as goal

pub returns-in-Whole-clause-read : goal.returns-in-Whole-clause-read
returns-in-Whole-clause-read g c =
    let bytes : List ℕ = c.fill_at.new.buf in
    let size : length bytes ≡ 25 = search rules in
    if_ok c.gate_after.result (λ (x : ℕ). (bytes ≡ head c.args.id ++ x ∷ []) × (length c.args.id ≡ 16)) (λ (x : ℕ). (f : List ℕ) → g.D.Disk.seen c.args.disk.now ≡ Some f → IsBegun c.args.id f x)
    (λ x said f is. head_begun c.args.id f bytes size (c.fill_at.ensures.whole c.in-Whole.is f is) x said.0 said.1) c.gate_after.ensures.ok

pub returns-in-Whole-clause-refused : goal.returns-in-Whole-clause-refused
returns-in-Whole-clause-refused g c =
    let bytes : List ℕ = c.fill_at.new.buf in
    let size : length bytes ≡ 25 = search rules in
    if_err c.gate_after.result (IsHeadRefusal c.args.id bytes)
    (λ (e : JournalError). (f : List ℕ) → g.D.Disk.seen c.args.disk.now ≡ Some f → length f ≡ c.args.end → IsRefusal c.args.id f e)
    (λ e said f is long. head_refused c.args.id f bytes size (c.fill_at.ensures.whole c.in-Whole.is f is) e (omega (arith, long, c.if-end-lt-SHORTEST.false)) said) c.gate_after.ensures.refused
