use Rattle.std.proofs.Common.{rules, length, subst, refl, arith}
use Rattle.journal_disk.specs.Disks.{Torn, Holds, Follows}
use Rattle.journal_disk.specs.MemDisks.{Image}
use Rattle.journal_disk.specs.Platter.{Platter}
use Rattle.journal_disk.proofs.MemDiskLemmas.{put_done, noted_torn, noted_image}
use Rattle.journal_disk.proofs.mem_disk.MemDiskDisk.write_at.Goals as goal

pub returns-then-fails_next-clause-seen : goal.returns-then-fails_next-clause-seen
returns-then-fails_next-clause-seen c =
    let d = c.self.inside in
    let w = c.put-noted in
    subst (λ (p : Platter). Torn c.args.at (length c.args.piece.now) p.held w.new.bytes) c.self.view_is
    (noted_torn d.first d.bytes w.new.bytes d.calls w.new.calls c.args.at c.min-kept.result c.args.piece.now w.result w.ensures.bytes w.ensures.same_bytes)

pub returns-then-fails_next-clause-crash : goal.returns-then-fails_next-clause-crash
returns-then-fails_next-clause-crash c =
    let d = c.self.inside in
    let w = c.put-noted in
    subst (λ (p : Platter). Follows (Torn c.args.at (length c.args.piece.now)) (Image p.first p.calls) (Image d.first w.new.calls)) c.self.view_is
    (noted_image d.first d.bytes w.new.bytes d.calls w.new.calls c.args.at c.min-kept.result c.args.piece.now w.result w.ensures.calls w.ensures.same_calls)

pub returns-then-is_err-clause-seen : goal.returns-then-is_err-clause-seen
returns-then-is_err-clause-seen c =
    let d = c.self.inside in
    let w = c.put in
    subst (λ (p : Platter). Torn c.args.at (length c.args.piece.now) p.held w.new.bytes) c.self.view_is
    (noted_torn d.first d.bytes w.new.bytes d.calls w.new.calls c.args.at (length c.args.piece.now) c.args.piece.now w.result w.ensures.bytes w.ensures.same_bytes)

pub returns-then-is_err-clause-crash : goal.returns-then-is_err-clause-crash
returns-then-is_err-clause-crash c =
    let d = c.self.inside in
    let w = c.put in
    subst (λ (p : Platter). Follows (Torn c.args.at (length c.args.piece.now)) (Image p.first p.calls) (Image d.first w.new.calls)) c.self.view_is
    (noted_image d.first d.bytes w.new.bytes d.calls w.new.calls c.args.at (length c.args.piece.now) c.args.piece.now w.result w.ensures.calls w.ensures.same_calls)

pub returns-clause-seen : goal.returns-clause-seen
returns-clause-seen c =
    let d = c.self.inside in
    subst (λ (p : Platter). Holds c.args.at c.args.piece.now p.held c.put.new.bytes) c.self.view_is
    (put_done d.bytes c.put.new.bytes c.args.at (length c.args.piece.now) c.args.piece.now refl (first_of (search rules, grind (arith, rules))))
