use Rattle.std.proofs.Common.{rules, ◌∷◌}
use Rattle.journal_file.proofs.AppendLemmas.{none_stays, none_moment}
use Rattle.journal_file.proofs.file.JournalFile.append_group.Goals as goal

pub returns-in_err-piece-clause-left : goal.returns-in_err-piece-clause-left
returns-in_err-piece-clause-left g c = none_stays g.D.Disk.seen g.D.Disk.may_leave c.args.self.now (c.args.first.now ∷ c.args.rest.now)

pub returns-in_err-piece-clause-any_moment : goal.returns-in_err-piece-clause-any_moment
returns-in_err-piece-clause-any_moment g c = none_moment g.D.Disk.seen g.D.Disk.may_leave c.args.self.now (c.args.first.now ∷ c.args.rest.now) g.D.Disk.moment g.D.Disk.left_since (g.met.D.Disk g.world.𝓛 g.world.𝓜 g.world.𝓡 (λ s x. x, λ p. p, λ n. n, λ k. k)).only_now

pub returns-then-self-gt-MAX_GATE-clause-left : goal.returns-then-self-gt-MAX_GATE-clause-left
returns-then-self-gt-MAX_GATE-clause-left g c = none_stays g.D.Disk.seen g.D.Disk.may_leave c.args.self.now (c.args.first.now ∷ c.args.rest.now)

pub returns-then-self-gt-MAX_GATE-clause-any_moment : goal.returns-then-self-gt-MAX_GATE-clause-any_moment
returns-then-self-gt-MAX_GATE-clause-any_moment g c = none_moment g.D.Disk.seen g.D.Disk.may_leave c.args.self.now (c.args.first.now ∷ c.args.rest.now) g.D.Disk.moment g.D.Disk.left_since (g.met.D.Disk g.world.𝓛 g.world.𝓜 g.world.𝓡 (λ s x. x, λ p. p, λ n. n, λ k. k)).only_now

pub returns-clause-any_moment : goal.returns-clause-any_moment
returns-clause-any_moment g c = c.append_piece.ensures.any_moment (c.args.first.now ∷ c.args.rest.now) (search rules)
