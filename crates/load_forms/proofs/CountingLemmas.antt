-- The frames that were counted, those that are left, and the room for more.
use Rattle.std.proofs.Common.{◌≡◌, ◌==◌, Bool, true, false, ℕ, ◌+◌, ◌*◌, ◌^◌, ◌<◌, ◌≤◌, List, [], ◌∷◌, length, drop, suc, ap, subst, sym, ◌∙◌, arith, if◌then◌else◌}
use Rattle.std.proofs.lemmas.List.{drop_all}
use Rattle.etp_capture.specs.Kinds.{kind_out}
use Rattle.etp_capture.specs.declared.frame.Frame.{Frame}
use Rattle.etp_frame.specs.Reading.{tree_of}
use Rattle.etp_schema.specs.declared.body.Side.TheVariants.{Server}
use Rattle.load_forms.specs.Tally.{change_in, nothing_sent, one_sent, tally_of, tally_part, plus, tally, HasRoom}
use Rattle.load_forms.specs.declared.tally.Tally.{Tally}
use Rattle.load_forms.proofs.TallyLemmas.{plus_nothing}

-- ---- how much a count grows

abbrev pub IsOne : Tally → Type 0
IsOne t = (t.sent ≤ 1) × (t.changes ≤ 1)

one_if : (sent change : Bool) → IsOne (if sent then one_sent change else nothing_sent)
one_if true true = (omega arith, omega arith)
one_if true false = (omega arith, omega arith)
one_if false change = (omega arith, omega arith)

-- a frame counts at most one
pub one_at_most : (kind : ℕ) (bytes : List ℕ) → IsOne (tally_part kind bytes)
one_at_most kind bytes = one_if (kind == kind_out) (change_in (tree_of Server bytes))

one_longer : (a b n : ℕ) → a ≤ 1 → b ≤ n → a + b ≤ suc n
one_longer a b n one more = omega (arith, one, more)

-- frames count no more than they are
few : (fs : List Frame) → ((tally fs).sent ≤ length fs) × ((tally fs).changes ≤ length fs)
few [] = (omega arith, omega arith)
few (f ∷ fs) =
    let one = one_at_most f.kind f.bytes in
    let more = few fs in
    (one_longer (tally_of f).sent (tally fs).sent (length fs) one.0 more.0, one_longer (tally_of f).changes (tally fs).changes (length fs) one.1 more.1)

-- ---- the room for more

fits_one : (before all now rest n : ℕ) → now + rest ≡ before + all → all ≤ n → n < 2 ^ 64 → before + 1 * 2 ^ 64 < 2 ^ 128 → now + 1 < 2 ^ 128
fits_one before all now rest n sum few short room = omega (arith, sum, few, short, room)

-- one more fits while the frames are counted
pub one_fits : (before now : Tally) (all rest : List Frame) → length all < 2 ^ 64 → HasRoom 1 before → plus now (tally rest) ≡ plus before (tally all) → (now.sent + 1 < 2 ^ 128) × (now.changes + 1 < 2 ^ 128)
one_fits before now all rest short room sum =
    let most = few all in (
      fits_one before.sent (tally all).sent now.sent (tally rest).sent (length all) (ap (λ (t : Tally). t.sent) sum) most.0 short room.0,
      fits_one before.changes (tally all).changes now.changes (tally rest).changes (length all) (ap (λ (t : Tally). t.changes) sum) most.1 short room.1,
    )

less : (a b n k : ℕ) → b ≤ n → n < 2 ^ 64 → a + (k + 1) * 2 ^ 64 < 2 ^ 128 → a + b + k * 2 ^ 64 < 2 ^ 128
less a b n k few short room = omega (arith, few, short, room)

-- after the answers of a frame there is room for one frame fewer
pub room_left : (before now : Tally) (fs : List Frame) (frames : ℕ) → length fs < 2 ^ 64 → now ≡ plus before (tally fs) → HasRoom (frames + 1) before → HasRoom frames now
room_left before now fs frames short is room =
    let most = few fs in
    subst (HasRoom frames) (sym is) (less before.sent (tally fs).sent (length fs) frames most.0 short room.0, less before.changes (tally fs).changes (length fs) frames most.1 short room.1)

-- all of them were counted
pub all_counted : (before now : Tally) (all : List Frame) (index : ℕ) → length all ≤ index → plus now (tally (drop index all)) ≡ plus before (tally all) → now ≡ plus before (tally all)
all_counted before now all index done is = sym (plus_nothing now) ∙ ap (λ (l : List Frame). plus now (tally l)) (sym (drop_all index all done)) ∙ is
