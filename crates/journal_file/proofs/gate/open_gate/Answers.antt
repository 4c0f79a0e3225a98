use Rattle.std.proofs.Common.{◌++◌, ◌∷◌, length, drop, inl, inr}
use Rattle.journal_file.proofs.Pieces.{torn_behind, torn_gate}
use Rattle.journal_file.proofs.GateLemmas.{behind_kept, gate_kept, behind_moment, gate_moment}
use Rattle.journal_file.proofs.gate.open_gate.Goals as goal

pub returns-in-Failed-clause-left : goal.returns-in-Failed-clause-left
returns-in-Failed-clause-left g c = λ front gate junk here is.
    let got = c.settle.ensures.left (front ++ gate ∷ junk) is in
    (got.0, got.1, inl (torn_behind front gate c.args.gate here junk got.0 (length c.args.piece.now) got.2))

pub returns-in-Failed-clause-any_moment : goal.returns-in-Failed-clause-any_moment
returns-in-Failed-clause-any_moment g c = λ front gate junk here kept.
    behind_moment g.D.Disk.seen g.D.Disk.may_leave front gate junk c.args.piece.now c.args.gate here c.args.disk.now c.settle.new.disk c.settle.new.disk
    g.D.Disk.moment g.D.Disk.left_since (c.settle.ensures.any_moment (front ++ gate ∷ junk) kept)

pub returns-in-Done-clause-done : goal.returns-in-Done-clause-done
returns-in-Done-clause-done g c = λ done front gate junk here is.
    gate_kept g.D.Disk.seen g.D.Disk.may_leave front gate junk c.args.piece.now c.args.gate here c.args.disk.now c.settle.new.disk c.settle-in-Done.new.disk
    (behind_kept g.D.Disk.seen g.D.Disk.may_leave front gate junk c.args.piece.now c.args.gate here c.args.disk.now c.settle.new.disk c.settle-in-Done.new.disk is (c.settle.ensures.done c.in-Done.is)) (c.settle-in-Done.ensures.done done)

pub returns-in-Done-clause-left : goal.returns-in-Done-clause-left
returns-in-Done-clause-left g c = λ front gate junk here is.
    let behind = c.args.piece.now ++ drop (length c.args.piece.now) junk in
    let kept = (behind_kept g.D.Disk.seen g.D.Disk.may_leave front gate junk c.args.piece.now c.args.gate here c.args.disk.now c.settle.new.disk c.settle-in-Done.new.disk is (c.settle.ensures.done c.in-Done.is)) in
    let got = c.settle-in-Done.ensures.left (front ++ gate ∷ behind) kept.told in
    let opened = torn_gate front gate c.args.gate here behind got.0 got.2 in
    (got.0, got.1, inr (opened.0, drop (length c.args.piece.now) junk, opened.1))

pub returns-in-Done-clause-any_moment : goal.returns-in-Done-clause-any_moment
returns-in-Done-clause-any_moment g c = λ front gate junk here rest.
    let behind = c.args.piece.now ++ drop (length c.args.piece.now) junk in
    let kept = (behind_kept g.D.Disk.seen g.D.Disk.may_leave front gate junk c.args.piece.now c.args.gate here c.args.disk.now c.settle.new.disk c.settle-in-Done.new.disk rest.told (c.settle.ensures.done c.in-Done.is)) in
    gate_moment g.D.Disk.seen g.D.Disk.may_leave front gate junk c.args.piece.now c.args.gate here c.args.disk.now c.settle.new.disk c.settle-in-Done.new.disk
    g.D.Disk.moment g.D.Disk.left_since (c.settle.ensures.any_moment (front ++ gate ∷ junk) rest) (c.settle-in-Done.ensures.any_moment (front ++ gate ∷ behind) kept)
