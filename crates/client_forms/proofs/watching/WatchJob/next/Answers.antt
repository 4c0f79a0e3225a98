use Rattle.std.proofs.Common.{◌≡◌, ◌+◌, ◌++◌, ◌∷◌, [], ℤ, rules, refl, sym, subst, ap, ◌∙◌, FitsSigned, w64, to_z, of_z, to_z-of_z}
use Rattle.client_core.specs.declared.ask.Ask.TheVariants as asked
use Rattle.client_forms.specs.Ctl.{from_first}
use Rattle.client_forms.specs.Shown.{WereFed, seen_on}
use Rattle.client_forms.specs.Work.{input, outside}
use Rattle.client_forms.specs.declared.action.Action.TheVariants as action
use Rattle.client_forms.specs.declared.stop.Cause.TheVariants as cause
use Rattle.client_forms.specs.declared.stop.Stop.TheVariants as stop
use Rattle.watch_views.specs.Boards.{each, lines_of, reading}
use Rattle.client_forms.proofs.WatchLemmas.{asked_is, board_shows, fed_none, opening_is, fed_on, watch_begins, watch_fails, watch_feeds, watch_opened, watched_is}
use Rattle.client_forms.proofs.watching.WatchJob.next.Goals as goal

pub returns-in-Opened-clause-plans : goal.returns-in-Opened-clause-plans
returns-in-Opened-clause-plans g c = λ shown job stage l told o h.
    let s = c.args.self.now in
    let left = g.R.Source.left c.args._from.now in
    let x = outside l told o (input left (g.R.Source.faults c.args._from.now)) in
    let views = seen_on (reading (λ s. s.channel) (λ s. (goal.View-dyn g (s.view.vtable, s.view.value)).held s.view.value) (λ s. (goal.View-dyn g (s.view.vtable, s.view.value)).step s.view.value) (λ s. (goal.View-dyn g (s.view.vtable, s.view.value)).shown s.view.value)) c.args.board.now.shelves.items in
    let k = opening_is s.uri s.most s.stage s.count views shown job stage c.in-Opening.is h in
    watch_opened shown c.args.got.now s.uri s.most job left stage k.0 x x c.ask_meta.result c.in-Opened.field-0 s.count views c.in-Opened.is c.ask_meta.ensures k.3 k.1 k.2

pub returns-in-Meta-clause-plans : goal.returns-in-Meta-clause-plans
returns-in-Meta-clause-plans g c = λ shown job stage l told o h.
    let s = c.args.self.now in
    let left = g.R.Source.left c.args._from.now in
    let x = outside l told o (input left (g.R.Source.faults c.args._from.now)) in
    let fits : FitsSigned w64 c.in-Meta.channel = search rules in
    let same : to_z w64 (of_z w64 c.in-Meta.channel) ≡ c.in-Meta.channel = to_z-of_z fits in
    let before = c.args.board.now.shelves.items in
    let views = seen_on (reading (λ s. s.channel) (λ s. (goal.View-dyn g (s.view.vtable, s.view.value)).held s.view.value) (λ s. (goal.View-dyn g (s.view.vtable, s.view.value)).step s.view.value) (λ s. (goal.View-dyn g (s.view.vtable, s.view.value)).shown s.view.value)) before in
    let now = seen_on (reading (λ s. s.channel) (λ s. (goal.View-dyn g (s.view.vtable, s.view.value)).held s.view.value) (λ s. (goal.View-dyn g (s.view.vtable, s.view.value)).step s.view.value) (λ s. (goal.View-dyn g (s.view.vtable, s.view.value)).shown s.view.value)) c.watch.new.self.shelves.items in
    let turned = c.watch.ensures ∙ ap (λ (n : ℤ). each before (λ v. record v { channel = n })) same in
    let fed : WereFed c.in-Meta.channel [] views now =
    subst (λ vs. WereFed c.in-Meta.channel [] views (seen_on (reading (λ s. s.channel) (λ s. (goal.View-dyn g (s.view.vtable, s.view.value)).held s.view.value) (λ s. (goal.View-dyn g (s.view.vtable, s.view.value)).step s.view.value) (λ s. (goal.View-dyn g (s.view.vtable, s.view.value)).shown s.view.value)) vs)) (sym turned)
    (fed_none _ (λ v. record v { channel = c.in-Meta.channel }) c.in-Meta.channel before (λ v. record { channel_is = refl; held_is = refl; step_same = λ k w. refl; shown_same = λ k. refl })) in
    let k = asked_is s.uri s.most s.stage s.count views shown job stage c.in-Asked.is h in
    watch_begins shown c.args.got.now s.uri s.most job left stage k.0 x x c.subscribe.result c.in-Meta.id c.in-Meta.channel c.in-Meta.kind s.count views now c.in-Meta.is (c.subscribe.ensures ∙ ap (λ (n : ℤ). action.Ask (asked.Subscribe n from_first)) same) k.3 k.1 fed k.2

pub returns-in_default-checked_add-clause-plans : goal.returns-in_default-checked_add-clause-plans
returns-in_default-checked_add-clause-plans g c = λ shown job stage l told o h.
    let s = c.args.self.now in
    let left = g.R.Source.left c.args._from.now in
    let x = outside l told o (input left (g.R.Source.faults c.args._from.now)) in
    watch_fails shown c.args.got.now s.uri s.most job left stage h.0 x x (stop.Cut cause.Memory) refl

pub returns-in-Err-clause-plans : goal.returns-in-Err-clause-plans
returns-in-Err-clause-plans g c = λ shown job stage l told o h.
    let s = c.args.self.now in
    let left = g.R.Source.left c.args._from.now in
    let x = outside l told o (input left (g.R.Source.faults c.args._from.now)) in
    watch_fails shown c.args.got.now s.uri s.most job left stage h.0 x x (stop.Cut cause.Memory) refl

pub returns-in_default-feed-clause-plans : goal.returns-in_default-feed-clause-plans
returns-in_default-feed-clause-plans g c = λ shown job stage l told o h.
    let s = c.args.self.now in
    let left = g.R.Source.left c.args._from.now in
    let x = outside l told o (input left (g.R.Source.faults c.args._from.now)) in
    let shelves = c.args.board.now.shelves.items in
    let turned = c.feed.new.self.shelves.items in
    let next : c.in-Some.count ≡ s.count + 1 = search rules in
    let w = watched_is s.stage s.count (seen_on (reading (λ s. s.channel) (λ s. (goal.View-dyn g (s.view.vtable, s.view.value)).held s.view.value) (λ s. (goal.View-dyn g (s.view.vtable, s.view.value)).step s.view.value) (λ s. (goal.View-dyn g (s.view.vtable, s.view.value)).shown s.view.value)) shelves) shown stage c.in-Watched.is h.1 in
    let fed = fed_on (reading (λ s. s.channel) (λ s. (goal.View-dyn g (s.view.vtable, s.view.value)).held s.view.value) (λ s. (goal.View-dyn g (s.view.vtable, s.view.value)).step s.view.value) (λ s. (goal.View-dyn g (s.view.vtable, s.view.value)).shown s.view.value)) shown w.channel w.fed c.in-Change.change s.count c.in-Some.count shelves turned next w.is_fed c.in_default-feed.ensures in
    watch_feeds shown c.args.got.now s.uri s.most job left stage h.0 x x c.show_at.result s.stage c.in-Change.change w.channel w.fed c.in-Some.count (lines_of (reading (λ s. s.channel) (λ s. (goal.View-dyn g (s.view.vtable, s.view.value)).held s.view.value) (λ s. (goal.View-dyn g (s.view.vtable, s.view.value)).step s.view.value) (λ s. (goal.View-dyn g (s.view.vtable, s.view.value)).shown s.view.value)) turned) (seen_on (reading (λ s. s.channel) (λ s. (goal.View-dyn g (s.view.vtable, s.view.value)).held s.view.value) (λ s. (goal.View-dyn g (s.view.vtable, s.view.value)).step s.view.value) (λ s. (goal.View-dyn g (s.view.vtable, s.view.value)).shown s.view.value)) turned) c.in-Watched.is c.in-Change.is w.stage_is fed
    (board_shows _ shown w.channel (w.fed ++ c.in-Change.change ∷ []) c.in-Some.count turned fed) c.show_at.ensures
