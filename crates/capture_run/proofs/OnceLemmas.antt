-- An input makes a run stop in one way.
use Rattle.std.proofs.Common.{◌≡◌, ℕ, inl, inr, true, if◌then◌else◌, List, [], ◌∷◌, ◌++◌, ap, ap₂, sym, ◌∙◌, subst, None, Some}
use Rattle.std.proofs.lemmas.Option.{none-some, same_Some}
use Rattle.etp_capture.specs.Found.{found}
use Rattle.etp_capture.specs.Capture.{end_at}
use Rattle.etp_capture.specs.declared.frame.Frame.{Frame}
use Rattle.etp_capture.proofs.AnswerLemmas.{behind_magic}
use Rattle.capture_run.specs.Form.{Plan}
use Rattle.capture_run.specs.Reading.{Front}
use Rattle.capture_run.specs.Running.{stop_of}
use Rattle.capture_run.specs.Laws.{IsForward, StopsOnce}
use Rattle.capture_run.specs.declared.form.Stop.{Stop}
use Rattle.capture_run.specs.declared.form.Stop.TheVariants.{Refused}
use Rattle.capture_run.proofs.FrontLemmas.{Longer, Compared, compared}

-- if frames follow, nothing stops the run
no_stop : (plan : Plan) → IsForward plan → (fs gs : List Frame) (rest : List ℕ) (s : Stop) → Longer 8 fs gs rest → plan.accepts gs ≡ true → stop_of plan fs (found (end_at 8 fs) rest) ≡ Some s → ⊥
no_stop plan forward fs gs rest s l accepted stops =
    let taken : plan.accepts (fs ++ l.0 ∷ []) ≡ true = forward fs l.0 l.1 (ap plan.accepts (sym l.3) ∙ accepted) in
    let goes : stop_of plan fs (found (end_at 8 fs) rest) ≡ None = ap (stop_of plan fs) l.4 ∙ ap (λ t. if t then None else Some (Refused (end_at 8 fs))) taken in
    none-some s (sym goes ∙ stops)

by_frames : (plan : Plan) → IsForward plan → (a b : Stop) (fs gs : List Frame) (rest other : List ℕ) → plan.accepts fs ≡ true → plan.accepts gs ≡ true
    → stop_of plan fs (found (end_at 8 fs) rest) ≡ Some a → stop_of plan gs (found (end_at 8 gs) other) ≡ Some b → Compared 8 fs gs rest other → (fs ≡ gs) × (a ≡ b)
by_frames plan forward a b fs gs rest other here there first second (inl same) =
    (same.0, same_Some a b (sym first ∙ ap₂ (λ (hs : List Frame) (l : List ℕ). stop_of plan hs (found (end_at 8 hs) l)) same.0 same.1 ∙ second))
by_frames plan forward a b fs gs rest other here there first second (inr (inl l)) = absurd (no_stop plan forward fs gs rest a l there first)
by_frames plan forward a b fs gs rest other here there first second (inr (inr l)) = absurd (no_stop plan forward gs fs other b l here second)

pub stops_once : (plan : Plan) → IsForward plan → StopsOnce plan
stops_once plan forward bytes a b fs gs first second =
    let x = first.1 in
    let y = second.1 in
    let same : y.1.0 ≡ x.1.0 = behind_magic y.1.0 x.1.0 (sym y.1.1 ∙ x.1.1) in
    by_frames plan forward a b fs gs x.0 y.0 first.0 second.0 x.2 y.2 (compared fs gs 8 x.1.0 x.0 y.0 x.1.2 (subst (λ l. Front 8 l gs y.0) same y.1.2))
