use Rattle.std.proofs.Common.{not, ◌≡◌, ℤ, rules, sym, subst, ◌∙◌, FitsSigned, w32, w64, to_z, of_z, to_z-of_z}
use Rattle.etp_outside.specs.declared.status.Status.TheVariants.{Refused}
use Rattle.client_forms.specs.Ctl.{breaks}
use Rattle.client_forms.specs.Work.{FailsOn, Stops, place}
use Rattle.client_forms.proofs.HearingLemmas.{by_error, other_fails}
use Rattle.client_forms.specs.Jobs.{stage_of}
use Rattle.client_forms.proofs.WhyLemmas.{breaks_own_by, opening_is, stops_why}
use Rattle.client_forms.proofs.hear.on_error.Goals as goal

pub returns-in-Refused-clause-fails : goal.returns-in-Refused-clause-fails
returns-in-Refused-clause-fails g c = λ shown job left stage there.
    let p = place c.args.client.now stage in
    let x = c.args.io.now in
    let y = c.break_off.new.io in
    let f : FitsSigned w64 c.from.result = search rules in
    let k : FitsSigned w32 c.in-Refused.code = search rules in
    let same : to_z w64 (of_z w64 c.from.result) ≡ c.from.result = to_z-of_z f in
    subst (λ e. FailsOn e c.break_off.result (by_error shown job) p x y) (sym c.in-Refused.is)
    (subst (λ (n : ℤ). Stops c.break_off.result (breaks (Refused n)) p x y) (same ∙ c.from.ensures ∙ to_z-of_z k) (c.break_off.ensures.stops stage (c.is_opening.ensures _ shown job left stage there) tt))

pub returns-in-Stopped-clause-fails : goal.returns-in-Stopped-clause-fails
returns-in-Stopped-clause-fails g c = λ shown job left stage there.
    subst (λ e. FailsOn e c.stop.result (by_error shown job) (place c.args.client.now stage) c.args.io.now c.stop.new.io) (sym c.in-Stopped.is) (c.stop.ensures.stops shown job left stage there)

pub returns-in_default-clause-fails : goal.returns-in_default-clause-fails
returns-in_default-clause-fails g c = λ shown job left stage there.
    other_fails shown job c.args.error.now (place c.args.client.now stage) c.args.io.now c.in_default.not-Refused c.in_default.not-Stopped c.in_default.not-NoMemory

pub returns-in-Refused-clause-why : goal.returns-in-Refused-clause-why
returns-in-Refused-clause-why g c =
    let stage = stage_of (not c.is_opening.result) in
    stops_why c.break_off.result _ (place c.args.client.now stage) c.args.io.now c.break_off.new.io (breaks_own_by _ tt) (c.break_off.ensures.stops stage (opening_is c.is_opening.result) tt)
