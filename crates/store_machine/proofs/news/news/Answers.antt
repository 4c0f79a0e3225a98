use Rattle.std.proofs.Common.{refl, ap, ◌∙◌, ◌-◌, arith}
use Rattle.store_machine.specs.News.{lag}
use Rattle.store_machine.specs.Telling.{dues_at}
use Rattle.store_machine.proofs.news.news.Goals as goal

pub returns-clause-watches : goal.returns-clause-watches
returns-clause-watches c = λ history all fresh.
    let from = c.min-from.result in
    let least = c.min-from.ensures in
    c.keep.ensures history all
    (fresh _ (record {
      channels = refl;
      followed = c.in_ok-followed.ensures;
      begun = omega (arith, least);
      mark_is = refl;
      lag = c.in_ok-due.ensures ∙ ap (λ fs. lag (dues_at c.args.channels.now fs from (c.args.mark - from))) (c.as_slice-2.ensures.value ∙ c.in_ok-followed.ensures);
    }))
