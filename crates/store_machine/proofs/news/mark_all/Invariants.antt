use Rattle.std.proofs.Common.{◌≡◌, drop}
use Rattle.store_machine.specs.Telling.{marked_by}
use Rattle.store_machine.proofs.news.mark_all.Given as goal

abbrev pub invariant-loop-each : goal.invariant-loop-each
invariant-loop-each l = marked_by l.channels (drop l.each-index l.followed) l.place l.marks ≡ marked_by l.channels l.followed l.place l.fn.marks
