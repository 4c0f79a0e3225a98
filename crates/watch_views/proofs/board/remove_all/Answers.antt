use Rattle.std.specs.Prelude.{◌≡◌, not, filter}
use Rattle.std.specs.Ordering.{int_eq}
use Rattle.std.proofs.Common.{rules, refl, ap, length, arith}
use Rattle.std.proofs.lemmas.Fn.{filter_same}
use Rattle.std.proofs.lemmas.List.Filters.{length-filter_both}
use Rattle.watch_views.proofs.board.remove_all.Goals as goal

pub returns-clause-kept : goal.returns-clause-kept
returns-clause-kept g c = filter_same _ _ _ (λ x b f h. search rules) _ _ c.retain.ensures.filtered

pub returns-clause-count : goal.returns-clause-count
returns-clause-count g c =
    let kept : c.retain.new.self.items ≡ filter (λ s. not (int_eq s.channel c.args.channel)) c.args.shelves.now.items = filter_same _ _ _ (λ x b f h. search rules) _ _ c.retain.ensures.filtered in
    let both = length-filter_both (λ s. int_eq s.channel c.args.channel) (λ s. not (int_eq s.channel c.args.channel)) (λ s. refl) c.args.shelves.now.items in
    omega (arith, both, ap length kept)
