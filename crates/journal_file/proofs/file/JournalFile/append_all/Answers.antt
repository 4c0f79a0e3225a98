use Rattle.std.proofs.Common.{ℕ, List, subst}
use Rattle.journal_file.specs.Rest.{Stays, AtEachMoment}
use Rattle.journal_file.proofs.AppendLemmas.{none_stays, none_moment, first_and_rest}
use Rattle.journal_file.proofs.file.JournalFile.append_all.Goals as goal

pub returns-in-empty-clause-left : goal.returns-in-empty-clause-left
returns-in-empty-clause-left g c = none_stays g.D.Disk.seen g.D.Disk.may_leave c.args.self.now (c.args.spellings.now)

pub returns-in-empty-clause-any_moment : goal.returns-in-empty-clause-any_moment
returns-in-empty-clause-any_moment g c = none_moment g.D.Disk.seen g.D.Disk.may_leave c.args.self.now (c.args.spellings.now) g.D.Disk.moment g.D.Disk.left_since (g.met.D.Disk g.world.𝓛 g.world.𝓜 g.world.𝓡 (λ s x. x, λ p. p, λ n. n, λ k. k)).only_now

pub returns-in-len1-up-clause-left : goal.returns-in-len1-up-clause-left
returns-in-len1-up-clause-left g c =
    subst (λ (l : List (List ℕ)). Stays g.D.Disk.seen g.D.Disk.may_leave c.args.self.now l c.append_group.new.self)
    (first_and_rest c.args.spellings.now c.first-item.result c.as_bytes.result.now c.in-len1-up.len_at_least c.first-item.is c.as_bytes.ensures) c.append_group.ensures.left

pub returns-in-len1-up-clause-any_moment : goal.returns-in-len1-up-clause-any_moment
returns-in-len1-up-clause-any_moment g c =
    subst (λ (l : List (List ℕ)). AtEachMoment g.D.Disk.seen g.D.Disk.may_leave g.D.Disk.moment g.D.Disk.left_since c.args.self.now l c.append_group.new.self)
    (first_and_rest c.args.spellings.now c.first-item.result c.as_bytes.result.now c.in-len1-up.len_at_least c.first-item.is c.as_bytes.ensures) c.append_group.ensures.any_moment
