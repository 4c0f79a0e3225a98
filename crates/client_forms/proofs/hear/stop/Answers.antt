use Rattle.std.proofs.Common.{not, ◌≡◌, ◌++◌, ap, sym, ◌∙◌}
use Rattle.etp_outside.specs.declared.status.Status.TheVariants.{Stopped}
use Rattle.client_forms.specs.Ctl.{breaks, showing, writes}
use Rattle.client_forms.specs.Work.{place}
use Rattle.client_forms.proofs.BreakingLemmas.{shown_grows}
use Rattle.client_forms.proofs.CourseLemmas.{set_at}
use Rattle.client_forms.proofs.RefitLemmas.{breaks_at_once, stops_refit}
use Rattle.client_forms.specs.Jobs.{stage_of}
use Rattle.client_forms.proofs.WhyLemmas.{opening_is, shows_own, stops_why}
use Rattle.client_forms.proofs.hear.stop.Goals as goal

pub returns-in-Ok-clause-stops : goal.returns-in-Ok-clause-stops
returns-in-Ok-clause-stops g c = λ shown job left stage there.
    let p = place c.args.client.now stage in
    let text : c.as_slice.result.now ≡ showing shown stage = c.as_slice.ensures.value ∙ (c.in-Ok.ensures shown job left stage there ∙ ap (λ b. b ++ showing shown stage) c.new-bytes.ensures.items) in
    stops_refit c.stop_with.result (λ d. breaks Stopped (writes (showing shown d.at.stage) d)) (λ d. breaks Stopped (writes c.as_slice.result.now d)) p p c.args.io.now c.stop_with.new.io
    (λ d. ap (λ b. breaks Stopped (writes b (set_at p d))) (sym text)) (c.stop_with.ensures.stops stage (c.is_opening.ensures _ shown job left stage there))

pub returns-clause-stops : goal.returns-clause-stops
returns-clause-stops g c = λ shown job left stage there.
    (breaks_at_once (λ d. breaks Stopped (writes (showing shown d.at.stage) d)) (place c.args.client.now stage) c.args.io.now (λ d. shown_grows (showing shown d.at.stage) Stopped d), tt)

pub returns-in-Ok-clause-why : goal.returns-in-Ok-clause-why
returns-in-Ok-clause-why g c =
    let stage = stage_of (not c.is_opening.result) in
    stops_why c.stop_with.result (λ d. breaks Stopped (writes c.as_slice.result.now d)) (place c.args.client.now stage) c.args.io.now c.stop_with.new.io
    (shows_own c.as_slice.result.now) (c.stop_with.ensures.stops stage (opening_is c.is_opening.result))
