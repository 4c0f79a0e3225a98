use Rattle.std.proofs.Common.{◌≡◌, ◌∙◌, ◌-◌, List, ℕ, Err, length, refl, ap, FitsSigned, w32, rules}
use Rattle.std.proofs.lemmas.Int.{to_z-of_z}
use Rattle.avro_bin.specs.Refusing.{refusal}
use Rattle.etp_frame.specs.Parts.{as_body_error}
use Rattle.etp_frame.specs.declared.error.FrameError.TheVariants as f
use Rattle.etp_frame.proofs.TypedLemmas.{ended_gives, none_gives, refused_gives}
use Rattle.etp_frame.proofs.reading.read_by_kind.Goals as goal

pub returns-in-Ok-Some : goal.returns-in-Ok-Some
returns-in-Ok-Some c = λ k typed.
    let h = c.args.header in
    let p : FitsSigned w32 h.protocol = search rules in
    let q : FitsSigned w32 h.kind = search rules in
    let len = c.saturating_sub-length.ensures ∙ ap (λ (l : List ℕ). length c.args.rest.now - length l) c.rest.ensures in
    ended_gives h k c.args.front c.args.rest.now (to_z-of_z w32 h.protocol p) (to_z-of_z w32 h.kind q) c.new-from.ensures.left c.new-from.ensures.rest typed
    c.in-Ok-Some.message _ _ c.saturating_sub-length.result c.ended.result c.in-Ok-Some.field-0-is c.in-Ok-Some.ensures len c.ended.ensures

pub returns-in-Ok-None : goal.returns-in-Ok-None
returns-in-Ok-None c = λ k typed.
    let h = c.args.header in
    let p : FitsSigned w32 h.protocol = search rules in
    let q : FitsSigned w32 h.kind = search rules in
    none_gives h k c.args.front c.args.rest.now (to_z-of_z w32 h.protocol p) (to_z-of_z w32 h.kind q) c.new-from.ensures.left c.new-from.ensures.rest typed
    _ _ (Err (f.UnknownKind h)) c.in-Ok-None.field-0-is c.in-Ok-None.ensures

pub returns-in-Err-At : goal.returns-in-Err-At
returns-in-Err-At c = λ k typed.
    let h = c.args.header in
    let p : FitsSigned w32 h.protocol = search rules in
    let q : FitsSigned w32 h.kind = search rules in
    let refused : c.fault_error.result ≡ as_body_error h c.args.front (refusal c.in-Err-At.why (length c.args.rest.now - c.in-Err-At.left)) =
    rw (c.fault_error.ensures, c.in-Err-At.field-0-is) refl in
    refused_gives h k c.args.front c.args.rest.now (to_z-of_z w32 h.protocol p) (to_z-of_z w32 h.kind q) c.new-from.ensures.left c.new-from.ensures.rest typed
    c.in-Err-At.why c.in-Err-At.left c.fault_error.result c.in-Err-At.field-0-is c.in-Err-At.ensures refused

pub returns-in-Err-Memory : goal.returns-in-Err-Memory
returns-in-Err-Memory c = λ k typed other. absurd (other refl)
