use Rattle.std.proofs.Common.{◌≡◌, ℕ, List, Ok, subst}
use Rattle.client_core.specs.Taking.{FailsBy, takes}
use Rattle.etp_outside.specs.declared.status.Status.TheVariants as status
use Rattle.client_forms.specs.declared.stop.Stop.TheVariants as stop
use Rattle.client_forms.specs.Work.{place}
use Rattle.client_forms.proofs.HearingLemmas.{err_same, steps_along, steps_by, stops_by, undone}
use Rattle.client_forms.proofs.hear.on_message.Goals as goal

pub returns-in-Ok-clause-steps : goal.returns-in-Ok-clause-steps
returns-in-Ok-clause-steps g c = λ shown job stage there.
    let x = c.args.io.now in
    let y = c.go_on.new.io in
    steps_by shown job _ c.go_on.result c.args.message.now c.in-Ok.gots c.args.client.now c.take.new.self c.go_on.new.client stage x y
    (subst (λ (b : List ℕ). (takes c.args.client.now b).result ≡ Ok c.in-Ok.gots) c.as_bytes.ensures c.in-Ok.ensures.0) (subst (λ (b : List ℕ). c.take.new.self ≡ (takes c.args.client.now b).state) c.as_bytes.ensures c.in-Ok.ensures.1)
    (steps_along shown job _ c.go_on.result c.as_slice.result.now c.in-Ok.gots (place c.take.new.self stage) c.go_on.new.client x y c.as_slice.ensures (c.go_on.ensures.steps shown job stage there))

pub returns-in-Err-clause-steps : goal.returns-in-Err-clause-steps
returns-in-Err-clause-steps g c = λ shown job stage there.
    stops_by shown job c.in-Err.error c.on_error.result c.args.message.now c.args.client.now c.take.new.self stage c.args.io.now c.on_error.new.io
    (subst (λ (b : List ℕ). FailsBy c.in-Err.error (takes c.args.client.now b) c.args.client.now c.take.new.self) c.as_bytes.ensures c.in-Err.ensures) (c.on_error.ensures.fails shown job c.args.io.now.input.left stage there)

pub returns-in-Err-clause-read : goal.returns-in-Err-clause-read
returns-in-Err-clause-read g c = λ e shown job stage there.
    absurd (undone shown job c.in-Err.error c.on_error.result (place c.take.new.self stage) c.args.io.now c.on_error.new.io (c.on_error.ensures.fails shown job c.args.io.now.input.left stage there) (err_same c.on_error.result (stop.Over status.Done) e))

pub returns-in-Err-clause-why : goal.returns-in-Err-clause-why
returns-in-Err-clause-why g c = c.on_error.ensures.why
