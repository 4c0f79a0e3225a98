use Rattle.std.proofs.Common.{◌++◌, ap, sym, ◌∙◌}
use Rattle.channel_store.specs.Drafts.{appends}
use Rattle.channel_store.specs.Points.{last_of}
use Rattle.channel_store.specs.Rows.{before_next}
use Rattle.channel_store.proofs.draft.last_before.Goals as goal

pub returns-in-Append : goal.returns-in-Append
returns-in-Append c =
    let h = c.args.points.now in
    c.last_added.ensures ∙ ap (λ l. last_of (h.points ++ l)) (c.requires.same ∙ ap appends c.in-Append.is) ∙ sym (ap (λ w. last_of (before_next h.points w)) c.in-Append.is)
