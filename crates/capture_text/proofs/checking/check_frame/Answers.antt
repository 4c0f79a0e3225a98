use Rattle.std.proofs.Common.{◌≡◌, ◌≢◌, ◌∙◌, ◌++◌, ℕ, List, Option, Some, Result, Ok, Err, sym, ap, subst}
use Rattle.std.specs.Prelude.{OnOk}
use Rattle.etp_values.specs.declared.memory.NoMemory.{NoMemory}
use Rattle.etp_schema.specs.declared.body.Side.{Side}
use Rattle.etp_frame.specs.Reading.{tree_of}
use Rattle.etp_frame.specs.declared.error.FrameError.{FrameError}
use Rattle.etp_frame.specs.declared.error.FrameError.TheVariants as f
use Rattle.capture_text.specs.Lines.{Reading, read_by, line_of, found_of}
use Rattle.capture_text.specs.Parts.{WritesAs}
use Rattle.capture_text.specs.declared.checking.Checked.{Checked}
use Rattle.capture_text.specs.declared.checking.Checked.TheVariants.{Refused}
use Rattle.capture_text.proofs.checking.check_frame.Goals as goal

-- the line of a message that the sender's bytes are refused by
refused : (o : Option Side) (side : Side) (bytes : List ℕ) (e : FrameError) (offset : ℕ) (old new : List ℕ) (r : Result Checked NoMemory) → Some side ≡ o → (e ≢ f.NoMemory → tree_of side bytes ≡ Err e)
    → WritesAs Refused (line_of offset (Some (Err e))) old new r → OnOk r (e ≢ f.NoMemory) → WritesAs (found_of (read_by o bytes)) (line_of offset (read_by o bytes)) old new r
refused o side bytes e offset old new (Err d) sent is w other = w
refused o side bytes e offset old new (Ok x) sent is w other =
    let read : Some (Err e) ≡ read_by o bytes = ap (λ (q : Reading). Some q) (sym (is other)) ∙ ap (λ (q : Option Side). read_by q bytes) sent in
    subst (λ (q : Option Reading). (x ≡ found_of q) × (new ≡ old ++ line_of offset q)) read w

pub returns-in-Err : goal.returns-in-Err
returns-in-Err c =
    let is = rw c.as_bytes.ensures at c.in-Err.ensures in
    refused _ c.in-Some.sender c.args.frame.now.bytes c.in-Err.error c.args.offset c.args.into.now.items c.refuse.new.into.items c.refuse.result c.in-Some.ensures is c.refuse.ensures.line c.refuse.ensures.cause
