use Rattle.std.proofs.Common.{◌≡◌, ◌∙◌, ◌+◌, ◌-◌, ◌++◌, ◌≤◌, ◌<◌, ℕ, ℤ, List, true, false, length, refl, sym, ap, subst, Option, Some, None, IfOk, FitsSigned, w64, arith, rules}
use Rattle.std.proofs.lemmas.Int.{to_z-of_z}
use Rattle.std.specs.List.{list_any}
use Rattle.etp_frame.specs.Joining.{Awaited, Objects, awaits, is_other, data_size, data_limit, carried, fed, grows, with_piece}
use Rattle.etp_frame.specs.Kept.{IsKept, awaiting, piece}
use Rattle.etp_frame.specs.declared.joining.Joined.TheVariants as j
use Rattle.etp_frame.specs.declared.joining.Joined.{Joined}
use Rattle.etp_frame.proofs.KeptLemmas.{here, kept_more, kept_last, sorted_last, left_last, answers_more, answers_whole, answers_next}
use Rattle.etp_frame.proofs.awaiting.Awaiting.grow.Goals as goal

pub invariant_of-awaiting : goal.invariant_of-awaiting
invariant_of-awaiting c =
    let i = c.self.inside in
    let p = c.args.chunk in
    let awaited = subst (λ (v : Awaited). list_any (awaits p.blob_id) v.objects ≡ true) (sym c.self.view_is) c.requires.awaited in
    let small = subst (λ (v : Awaited). data_size v.objects + length p.payload ≤ data_limit) (sym c.self.view_is) c.requires.size in
    let is : c.in-Ok.pieces.items ≡ i.pieces.items ++ p.payload = c.in-Ok.ensures ∙ ap (λ (b : List ℕ). i.pieces.items ++ b) c.as_bytes.ensures in
    subst (λ (n : ℕ). IsKept i.places.entries i.left (i.size + n) (Some p.blob_id) c.in-Ok.pieces.items i.objects.items) (sym c.len.ensures.value)
    (kept_more i.places.entries i.left i.size i.begun i.pieces.items i.objects.items p c.self.invariant awaited small c.in-Ok.pieces.items is)

pub returns-then-not-chunk-clause-ok : goal.returns-then-not-chunk-clause-ok
returns-then-not-chunk-clause-ok c =
    let i = c.self.inside in
    let p = c.args.chunk in
    let awaited = subst (λ (v : Awaited). list_any (awaits p.blob_id) v.objects ≡ true) (sym c.self.view_is) c.requires.awaited in
    let small = subst (λ (v : Awaited). data_size v.objects + length p.payload ≤ data_limit) (sym c.self.view_is) c.requires.size in
    let same = subst (λ (v : Awaited). is_other v.begun p.blob_id ≡ false) (sym c.self.view_is) c.requires.begun in
    let is : c.in-Ok.pieces.items ≡ i.pieces.items ++ p.payload = c.in-Ok.ensures ∙ ap (λ (b : List ℕ). i.pieces.items ++ b) c.as_bytes.ensures in
    let f : FitsSigned w64 i.correlation = search rules in
    let at = here i.places.entries i.left i.size i.begun i.pieces.items i.objects.items p c.self.invariant awaited small in
    ap (λ (z : ℤ). let w : Awaited = record { correlation = z; carrier = i.carrier; objects = fed i.objects.items (piece p.blob_id c.in-Ok.pieces.items); begun = Some p.blob_id } in (j.More, Some w)) (to_z-of_z w64 i.correlation f)
    ∙ answers_more i.correlation i.carrier i.begun i.pieces.items i.objects.items p c.self.invariant.is_begun same c.in-Ok.pieces.items is c.if-not-chunk.true at
    ∙ ap (λ (v : Awaited). grows (with_piece v p)) c.self.view_is

pub from_sorted-requires : goal.from_sorted-requires
from_sorted-requires c =
    let i = c.self.inside in
    let p = c.args.chunk in
    let awaited = subst (λ (v : Awaited). list_any (awaits p.blob_id) v.objects ≡ true) (sym c.self.view_is) c.requires.awaited in
    let small = subst (λ (v : Awaited). data_size v.objects + length p.payload ≤ data_limit) (sym c.self.view_is) c.requires.size in
    sorted_last i.places.entries i.left i.size i.begun i.pieces.items i.objects.items p c.self.invariant awaited small c.in-Ok.pieces.items c.in-Ok-finished.objects.items c.in-Ok-finished.ensures

pub returns-then-left-eq1-clause-ok : goal.returns-then-left-eq1-clause-ok
returns-then-left-eq1-clause-ok c =
    let i = c.self.inside in
    let p = c.args.chunk in
    let awaited = subst (λ (v : Awaited). list_any (awaits p.blob_id) v.objects ≡ true) (sym c.self.view_is) c.requires.awaited in
    let small = subst (λ (v : Awaited). data_size v.objects + length p.payload ≤ data_limit) (sym c.self.view_is) c.requires.size in
    let same = subst (λ (v : Awaited). is_other v.begun p.blob_id ≡ false) (sym c.self.view_is) c.requires.begun in
    let is : c.in-Ok.pieces.items ≡ i.pieces.items ++ p.payload = c.in-Ok.ensures ∙ ap (λ (b : List ℕ). i.pieces.items ++ b) c.as_bytes.ensures in
    let ys = c.in-Ok-finished.objects.items in
    let left = left_last i.places.entries i.left i.size i.begun i.pieces.items i.objects.items p c.self.invariant awaited small c.in-Ok.pieces.items ys c.in-Ok-finished.ensures in
    let none : awaiting ys ≡ 0 = omega (arith, left, c.if-left-eq1.true) in
    let whole = ap (λ (os : Objects). let none : Option Awaited = None in (j.Whole (carried i.carrier os), none)) c.from_sorted.ensures
    ∙ answers_whole i.correlation i.carrier i.begun i.pieces.items i.objects.items p c.self.invariant.is_begun same c.in-Ok.pieces.items ys is c.in-Ok-finished.ensures c.if-not-chunk.false none
    ∙ ap (λ (v : Awaited). grows (with_piece v p)) c.self.view_is in
    subst (λ (v : Joined × Option Awaited). IfOk c.brought.result (λ r. r ≡ v)) whole c.brought.ensures.ok

pub overflow_sub-awaiting : goal.overflow_sub-awaiting
overflow_sub-awaiting c =
    let i = c.self.inside in
    let p = c.args.chunk in
    let awaited = subst (λ (v : Awaited). list_any (awaits p.blob_id) v.objects ≡ true) (sym c.self.view_is) c.requires.awaited in
    let small = subst (λ (v : Awaited). data_size v.objects + length p.payload ≤ data_limit) (sym c.self.view_is) c.requires.size in
    omega (arith, left_last i.places.entries i.left i.size i.begun i.pieces.items i.objects.items p c.self.invariant awaited small c.in-Ok.pieces.items c.in-Ok-finished.objects.items c.in-Ok-finished.ensures)

pub invariant_of-awaiting-2 : goal.invariant_of-awaiting-2
invariant_of-awaiting-2 c =
    let i = c.self.inside in
    let p = c.args.chunk in
    let awaited = subst (λ (v : Awaited). list_any (awaits p.blob_id) v.objects ≡ true) (sym c.self.view_is) c.requires.awaited in
    let small = subst (λ (v : Awaited). data_size v.objects + length p.payload ≤ data_limit) (sym c.self.view_is) c.requires.size in
    let is : c.in-Ok.pieces.items ≡ i.pieces.items ++ p.payload = c.in-Ok.ensures ∙ ap (λ (b : List ℕ). i.pieces.items ++ b) c.as_bytes.ensures in
    let ys = c.in-Ok-finished.objects.items in
    subst (λ (n : ℕ). IsKept i.places.entries (i.left - 1) (i.size + n) None c.new.result.items ys) (sym c.len.ensures.value)
    (kept_last i.places.entries i.left i.size i.begun i.pieces.items i.objects.items p c.self.invariant awaited small c.in-Ok.pieces.items ys is c.in-Ok-finished.ensures (i.left - 1) refl c.new.result.items c.new.ensures.items)

pub returns-clause-ok : goal.returns-clause-ok
returns-clause-ok c =
    let i = c.self.inside in
    let p = c.args.chunk in
    let awaited = subst (λ (v : Awaited). list_any (awaits p.blob_id) v.objects ≡ true) (sym c.self.view_is) c.requires.awaited in
    let small = subst (λ (v : Awaited). data_size v.objects + length p.payload ≤ data_limit) (sym c.self.view_is) c.requires.size in
    let same = subst (λ (v : Awaited). is_other v.begun p.blob_id ≡ false) (sym c.self.view_is) c.requires.begun in
    let is : c.in-Ok.pieces.items ≡ i.pieces.items ++ p.payload = c.in-Ok.ensures ∙ ap (λ (b : List ℕ). i.pieces.items ++ b) c.as_bytes.ensures in
    let ys = c.in-Ok-finished.objects.items in
    let left = left_last i.places.entries i.left i.size i.begun i.pieces.items i.objects.items p c.self.invariant awaited small c.in-Ok.pieces.items ys c.in-Ok-finished.ensures in
    let some : 0 < awaiting ys = omega (arith, left, c.if-left-eq1.false) in
    let f : FitsSigned w64 i.correlation = search rules in
    ap (λ (z : ℤ). let w : Awaited = record { correlation = z; carrier = i.carrier; objects = ys; begun = None } in (j.More, Some w)) (to_z-of_z w64 i.correlation f)
    ∙ answers_next i.correlation i.carrier i.begun i.pieces.items i.objects.items p c.self.invariant.is_begun same c.in-Ok.pieces.items ys is c.in-Ok-finished.ensures c.if-not-chunk.false some
    ∙ ap (λ (v : Awaited). grows (with_piece v p)) c.self.view_is
