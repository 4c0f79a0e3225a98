use Rattle.std.proofs.Common.{◌≡◌, ◌≢◌, ◌<◌, ◌++◌, [], ◌∙◌, ℕ, List, length, Some, arith}
use Rattle.journal_file.specs.Layout.{head, blocks, IsFile}
use Rattle.journal_file.specs.Opening.{IsRead, IsStep, IsRefusal}
use Rattle.journal_file.specs.declared.error.JournalError.{JournalError}
use Rattle.journal_file.specs.declared.opening.Walk.{Walk}
use Rattle.journal_file.proofs.OpeningLemmas.{if_ok, if_err, if_both, begun_read, file_read, gate_read, step_refused}
use Rattle.journal_file.proofs.opening.read_file.Goals as goal

pub returns-clause-read : goal.returns-clause-read
returns-clause-read g c =
    let id = c.args.id in
    let byte = c.in_ok-byte.byte in
    let Read : Walk → Type 0 = λ w. (f : List ℕ) → g.D.Disk.seen c.read_head.new.disk ≡ Some f → IsRead f [] 24 byte → IsRead f w.spellings.items w.gate w.byte in
    let Shut : Walk → Type 0 = λ w. w.byte ≢ 1 in
    let Inside : Walk → Type 0 = λ w. w.gate < c.args.end in
    let all = if_both c.read_blocks.result Read (λ w. Shut w × Inside w) c.read_blocks.ensures.read (if_both c.read_blocks.result Shut Inside c.read_blocks.ensures.shut c.read_blocks.ensures.inside) in
    if_ok c.read_blocks.result (λ (w : Walk). Read w × (Shut w × Inside w)) (λ (w : Walk). (f : List ℕ) → g.D.Disk.seen c.args.disk.now ≡ Some f → IsFile id w.spellings.items f)
    (λ w said f is.
    let begun = c.in_ok-byte.ensures.read f is in
    file_read id f byte w.spellings.items w.gate w.byte begun (said.0 f (c.read_head.ensures.rested.same ∙ is) (begun_read id f byte begun)) said.1.0
    (omega (arith, said.1.1, c.ranges.end.fits))) all

pub returns-clause-gate : goal.returns-clause-gate
returns-clause-gate g c =
    let id = c.args.id in
    let byte = c.in_ok-byte.byte in
    if_ok c.read_blocks.result (λ (w : Walk). (f : List ℕ) → g.D.Disk.seen c.read_head.new.disk ≡ Some f → IsRead f [] 24 byte → IsRead f w.spellings.items w.gate w.byte)
    (λ (w : Walk). (f : List ℕ) → g.D.Disk.seen c.args.disk.now ≡ Some f → w.gate ≡ length (head id ++ blocks w.spellings.items))
    (λ w said f is.
    let begun = c.in_ok-byte.ensures.read f is in
    gate_read id f byte w.spellings.items w.gate w.byte begun (said f (c.read_head.ensures.rested.same ∙ is) (begun_read id f byte begun))) c.read_blocks.ensures.read

pub returns-clause-refused : goal.returns-clause-refused
returns-clause-refused g c =
    let id = c.args.id in
    let byte = c.in_ok-byte.byte in
    if_err c.read_blocks.result (λ (e : JournalError). (f : List ℕ) → g.D.Disk.seen c.read_head.new.disk ≡ Some f → length f ≡ c.args.end → IsRead f [] 24 byte → IsStep f e)
    (λ (e : JournalError). (f : List ℕ) → g.D.Disk.seen c.args.disk.now ≡ Some f → length f ≡ c.args.end → IsRefusal id f e)
    (λ e said f is long.
    let begun = c.in_ok-byte.ensures.read f is in
    step_refused id f byte e begun (said f (c.read_head.ensures.rested.same ∙ is) long (begun_read id f byte begun))) c.read_blocks.ensures.refused
