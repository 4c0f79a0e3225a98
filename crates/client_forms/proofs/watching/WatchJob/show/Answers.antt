use Rattle.std.proofs.Common.{◌≡◌, ◌++◌, ap, sym, subst, ◌∙◌}
use Rattle.std.specs.Prelude.{OnOk}
use Rattle.client_forms.specs.Ctl.{showing}
use Rattle.client_forms.proofs.WatchLemmas.{board_shows, watched_is}
use Rattle.client_forms.proofs.watching.WatchJob.show.Goals as goal

pub returns-in-Watched : goal.returns-in-Watched
returns-in-Watched g c = λ shown job left stage h.
    let w = watched_is c.args.self.now.stage c.args.self.now.count _ shown stage c.in-Watched.is h.1 in
    subst (λ l. OnOk c.print.result (c.print.new.into.items ≡ c.args.into.now.items ++ l))
    (board_shows _ shown w.channel w.fed c.args.self.now.count c.args.board.now.shelves.items w.is_fed ∙ ap (showing shown) (sym w.stage_is)) c.print.ensures.ok
