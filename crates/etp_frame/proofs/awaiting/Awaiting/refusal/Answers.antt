use Rattle.std.proofs.Common.{◌≡◌, ◌∙◌, ◌+◌, ◌<◌, ◌≤◌, true, false, length, sym, ap, subst, Some, None, FitsSigned, to_z, w64, arith, rules}
use Rattle.std.proofs.lemmas.Int.{to_z-of_z}
use Rattle.std.specs.List.{list_any}
use Rattle.etp_frame.specs.Joining.{Awaited, awaits, data_size, data_limit, chunk_refusal}
use Rattle.etp_frame.specs.Kept.{gathered}
use Rattle.etp_frame.specs.declared.joining.JoinError.TheVariants as e
use Rattle.etp_frame.proofs.KeptLemmas.{awaits_gathered, size_gathered, refused_blob, refused_other, refused_long, refused_not}
use Rattle.etp_frame.proofs.awaiting.Awaiting.refusal.Goals as goal

pub returns-then-not-is_awaited : goal.returns-then-not-is_awaited
returns-then-not-is_awaited c =
    let i = c.self.inside in
    let p = c.args.chunk.now in
    let w : Awaited = record { correlation = i.correlation; carrier = i.carrier; objects = gathered i.begun i.pieces.items i.objects.items; begun = i.begun } in
    let none : list_any (awaits p.blob_id) w.objects ≡ false =
    awaits_gathered i.begun i.pieces.items p.blob_id i.objects.items ∙ sym (c.is_awaited.ensures ∙ ap (list_any (awaits p.blob_id)) c.deref.ensures.value) ∙ c.if-not-is_awaited.true in
    subst (λ (v : Awaited). Some e.WrongBlob ≡ chunk_refusal v c.args.correlation p) c.self.view_is (refused_blob w c.args.correlation p none)

pub returns-then-is_other : goal.returns-then-is_other
returns-then-is_other c =
    let i = c.self.inside in
    let p = c.args.chunk.now in
    let w : Awaited = record { correlation = i.correlation; carrier = i.carrier; objects = gathered i.begun i.pieces.items i.objects.items; begun = i.begun } in
    let any : list_any (awaits p.blob_id) w.objects ≡ true =
    awaits_gathered i.begun i.pieces.items p.blob_id i.objects.items ∙ sym (c.is_awaited.ensures ∙ ap (list_any (awaits p.blob_id)) c.deref.ensures.value) ∙ c.if-not-is_awaited.false in
    let f : FitsSigned w64 i.correlation = search rules in
    let same : c.args.correlation ≡ i.correlation = sym (to_z-of_z w64 c.args.correlation c.ranges.correlation) ∙ ap (to_z w64) c.if-correlation-self.false ∙ to_z-of_z w64 i.correlation f in
    subst (λ (v : Awaited). Some e.Interleaved ≡ chunk_refusal v c.args.correlation p) c.self.view_is
    (refused_other w c.args.correlation p same any (sym c.is_other.ensures ∙ c.if-is_other.true))

pub returns-then-self-len-gt-DATA_LIMIT : goal.returns-then-self-len-gt-DATA_LIMIT
returns-then-self-len-gt-DATA_LIMIT c =
    let i = c.self.inside in
    let p = c.args.chunk.now in
    let w : Awaited = record { correlation = i.correlation; carrier = i.carrier; objects = gathered i.begun i.pieces.items i.objects.items; begun = i.begun } in
    let any : list_any (awaits p.blob_id) w.objects ≡ true =
    awaits_gathered i.begun i.pieces.items p.blob_id i.objects.items ∙ sym (c.is_awaited.ensures ∙ ap (list_any (awaits p.blob_id)) c.deref.ensures.value) ∙ c.if-not-is_awaited.false in
    let past : data_limit < data_size w.objects + length p.payload =
    omega (arith, c.self.invariant.size_is, size_gathered i.begun i.pieces.items i.objects.items c.self.invariant.is_begun, c.len.ensures.value, c.if-self-len-gt-DATA_LIMIT.true) in
    let f : FitsSigned w64 i.correlation = search rules in
    let same : c.args.correlation ≡ i.correlation = sym (to_z-of_z w64 c.args.correlation c.ranges.correlation) ∙ ap (to_z w64) c.if-correlation-self.false ∙ to_z-of_z w64 i.correlation f in
    subst (λ (v : Awaited). Some e.TooLong ≡ chunk_refusal v c.args.correlation p) c.self.view_is
    (refused_long w c.args.correlation p same any (sym c.is_other.ensures ∙ c.if-is_other.false) past)

pub returns : goal.returns
returns c =
    let i = c.self.inside in
    let p = c.args.chunk.now in
    let w : Awaited = record { correlation = i.correlation; carrier = i.carrier; objects = gathered i.begun i.pieces.items i.objects.items; begun = i.begun } in
    let any : list_any (awaits p.blob_id) w.objects ≡ true =
    awaits_gathered i.begun i.pieces.items p.blob_id i.objects.items ∙ sym (c.is_awaited.ensures ∙ ap (list_any (awaits p.blob_id)) c.deref.ensures.value) ∙ c.if-not-is_awaited.false in
    let within : data_size w.objects + length p.payload ≤ data_limit =
    omega (arith, c.self.invariant.size_is, size_gathered i.begun i.pieces.items i.objects.items c.self.invariant.is_begun, c.len.ensures.value, c.if-self-len-gt-DATA_LIMIT.false) in
    let f : FitsSigned w64 i.correlation = search rules in
    let same : c.args.correlation ≡ i.correlation = sym (to_z-of_z w64 c.args.correlation c.ranges.correlation) ∙ ap (to_z w64) c.if-correlation-self.false ∙ to_z-of_z w64 i.correlation f in
    subst (λ (v : Awaited). None ≡ chunk_refusal v c.args.correlation p) c.self.view_is
    (refused_not w c.args.correlation p same any (sym c.is_other.ensures ∙ c.if-is_other.false) within)
