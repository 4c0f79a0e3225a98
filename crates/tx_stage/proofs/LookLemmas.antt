-- Looks over states that agree, and what is given of a region by what it counts.
use Rattle.std.proofs.Common.{ℕ, ◌-◌, ◌≤◌, ◌<◌, nat_lt, true, false, cond, [], ◌∷◌, ◌≡◌, Option, Some, None, refl, sym, ap, ◌∙◌, arith}
use Rattle.std.proofs.lemmas.Bool.Decides.{nat_tests}
use Rattle.etp_values.specs.Weight.{capped}
use Rattle.etp_values.specs.declared.code.ErrorCode.TheVariants.{LimitExceeded}
use Rattle.etp_values.specs.declared.data.AnyArray.{AnyArray}
use Rattle.array_store.specs.declared.error.ArrayError.{ArrayError}
use Rattle.array_store.specs.Arrays.{size_of}
use Rattle.array_store.specs.Codes.{code_of}
use Rattle.tx_stage.specs.Laws.{LooksAtOwnKeys}
use Rattle.tx_stage.specs.declared.look.Looked.TheVariants.{Refused, Slice}
use Rattle.tx_stage.specs.Looks.{elements_seen, key_of, seen_of, given, payload_of, looks_within}

pub looks-same : LooksAtOwnKeys
looks-same state other room [] same = refl
looks-same state other room (w ∷ ws) same =
    let seen = given room (seen_of w (other (key_of w))) in
    (λ j. given room (seen_of w (same.0 j)) ∷ looks_within state (room - payload_of (given room (seen_of w (same.0 j)))) ws)
    ∙ ap (λ l. seen ∷ l) (looks-same state other (room - payload_of seen) ws same.1)

-- ---- what is given of a region

never_more : (room : ℕ) → nat_lt room 0 ≡ false
never_more room = grind (arith, nat_tests)

has_more : (room bytes n : ℕ) → room ≤ 67108864 → bytes ≡ capped n → room < bytes → nat_lt room n ≡ true
has_more room bytes n few e h = grind (arith, nat_tests)

has_no_more : (room bytes n : ℕ) → room ≤ 67108864 → bytes ≡ capped n → bytes ≤ room → nat_lt room n ≡ false
has_no_more room bytes n few e h = grind (arith, nat_tests)

-- a refusal takes no room
pub given-refused : (room : ℕ) (e : ArrayError) (refusal : Option ArrayError) (values : AnyArray) → refusal ≡ Some e → Refused (code_of e) ≡ given room (elements_seen refusal values)
given-refused room e refusal values is =
    ap (λ b. cond b (Refused LimitExceeded) (Refused (code_of e))) (sym (never_more room)) ∙ ap (λ r. given room (elements_seen r values)) (sym is)

-- elements that count more than the room that is left
pub given-heavy : (room bytes : ℕ) (refusal : Option ArrayError) (values : AnyArray) → refusal ≡ None → room ≤ 67108864 → bytes ≡ capped (size_of values) → room < bytes
    → Refused LimitExceeded ≡ given room (elements_seen refusal values)
given-heavy room bytes refusal values is few e h =
    ap (λ b. cond b (Refused LimitExceeded) (Slice values)) (sym (has_more room bytes (size_of values) few e h)) ∙ ap (λ r. given room (elements_seen r values)) (sym is)

-- elements that fit
pub given-light : (room bytes : ℕ) (refusal : Option ArrayError) (values : AnyArray) → refusal ≡ None → room ≤ 67108864 → bytes ≡ capped (size_of values) → bytes ≤ room
    → Slice values ≡ given room (elements_seen refusal values)
given-light room bytes refusal values is few e h =
    ap (λ b. cond b (Refused LimitExceeded) (Slice values)) (sym (has_no_more room bytes (size_of values) few e h)) ∙ ap (λ r. given room (elements_seen r values)) (sym is)
