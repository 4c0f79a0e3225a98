-- The shortest replies.
use Rattle.std.specs.Prelude.{List, [], ◌∷◌, Option, Some, None}
use Rattle.etp_values.specs.declared.code.ErrorCode.{ErrorCode}
use Rattle.keyed_requests.specs.declared.sending.Sending.{Sending}
use Rattle.keyed_requests.specs.declared.sending.Sending.TheVariants.{Reply, Refusal}
use Rattle.keyed_requests.specs.declared.sending.Outcome.{Outcome}
use Rattle.keyed_requests.specs.declared.sending.Outcome.TheVariants.{Replies}

-- one message answers the request
abbrev pub reply_alone : {M : Type 0} → M → List (Sending M)
reply_alone message = Reply message ∷ []

-- the request is refused as a whole
abbrev pub refusal_alone : {M : Type 0} → ErrorCode → List (Sending M)
refusal_alone code = Refusal code ∷ []

-- a request is refused as a whole, if there is a cause
abbrev pub unless_refused : {C P M : Type 0} → Option ErrorCode → Outcome C P M → Outcome C P M
unless_refused (Some code) outcome = Replies (refusal_alone code)
unless_refused None outcome = outcome

-- the first of two causes
abbrev pub first_cause : Option ErrorCode → Option ErrorCode → Option ErrorCode
first_cause (Some code) later = Some code
first_cause None later = later
