use Rattle.std.proofs.Common.{◌≡◌, List, ℕ, ◌++◌, Ok, subst, arith}
use Rattle.std.specs.Prelude.{IfOk}
use Rattle.etp_values.specs.declared.memory.NoMemory.{NoMemory}
use Rattle.avro_bin.specs.Laws.{IsBytes}
use Rattle.etp_frame.specs.Reading.{read_of}
use Rattle.etp_frame.specs.Pieces.{Hearing, WasFed, after, said}
use Rattle.etp_frame.specs.Standing.{heard_at, Takes}
use Rattle.etp_frame.specs.declared.stage.Stage.{Stage}
use Rattle.etp_frame.proofs.FeedingLemmas.{fed_on, fed_leaves}
use Rattle.etp_frame.proofs.pieces.MessageReader.feed.Goals as goal

pub returns-in-Ok-clause-reads : goal.returns-in-Ok-clause-reads
returns-in-Ok-clause-reads c =
    let fits : IsBytes c.args.piece.now = λ i. omega (arith, c.type_inv.piece i) in
    let old = c.self.inside in
    let takes = subst (λ (s : Stage). Takes old.sender old.table.now.nodes.now (heard_at s) c.args.piece.now (Ok (c.in-Ok.answer, c.in-Ok.stage))) c.replace-stage.ensures.value c.in-Ok.ensures in
    subst
    (λ (h : Hearing). (fed : List ℕ) → WasFed h fed → IfOk {E = NoMemory} (Ok c.in-Ok.answer) (λ x. x ≡ said (read_of h.sender (fed ++ c.args.piece.now))) × WasFed (record { sender = old.sender; heard = heard_at c.in-Ok.stage }) (fed ++ c.args.piece.now))
    c.self.view_is
    (fed_on (record { sender = old.sender; heard = heard_at old.stage }) old.table.now.nodes.now c.args.piece.now c.in-Ok.answer c.in-Ok.stage fits takes)

pub returns-in-Ok-clause-leaves : goal.returns-in-Ok-clause-leaves
returns-in-Ok-clause-leaves c =
    let old = c.self.inside in
    let takes = subst (λ (s : Stage). Takes old.sender old.table.now.nodes.now (heard_at s) c.args.piece.now (Ok (c.in-Ok.answer, c.in-Ok.stage))) c.replace-stage.ensures.value c.in-Ok.ensures in
    let new : Hearing = record { sender = old.sender; heard = heard_at c.in-Ok.stage } in
    subst (λ (h : Hearing). new ≡ after h c.args.piece.now (Ok c.in-Ok.answer)) c.self.view_is
    (fed_leaves (record { sender = old.sender; heard = heard_at old.stage }) old.table.now.nodes.now c.args.piece.now c.in-Ok.answer c.in-Ok.stage takes)
