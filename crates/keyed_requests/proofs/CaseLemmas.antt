-- A reply by what its granted and refused keys are. Crates above cite `by_response` too.
use Rattle.std.specs.Prelude.{ℕ, Bool, true, false, ◌≡◌, ◌≢◌, ◌==◌, not, List, [], ◌∷◌, length, refl}
use Rattle.etp_values.proofs.BoolLemmas.{not_zero}
use Rattle.etp_values.specs.declared.code.ErrorCode.{ErrorCode}
use Rattle.std.proofs.Common.{ap}
use Rattle.std.proofs.lemmas.Bool.{false≢true, true≢false}
use Rattle.keyed_requests.specs.Keyed.{keyed_replies, response_unless_refused}
use Rattle.keyed_requests.specs.declared.sending.Sending.TheVariants.{Reply, RefusedKeys}

pub both_sent : {R M : Type 0} (response : List (List ℕ × R) → M) (granted : List (List ℕ × R)) (refused : List (List ℕ × ErrorCode)) → length granted ≢ 0 → length refused ≢ 0 → keyed_replies response granted refused ≡ Reply (response granted) ∷ RefusedKeys refused ∷ []
both_sent response [] refused g r = absurd (g refl)
both_sent response (x ∷ xs) [] g r = absurd (r refl)
both_sent response (x ∷ xs) (y ∷ ys) g r = refl

-- a response that was made from the granted keys makes the reply
pub by_response : {R M : Type 0} (response : List (List ℕ × R) → M) (granted : List (List ℕ × R)) (refused : List (List ℕ × ErrorCode)) → response_unless_refused (not (length granted == 0)) (response granted) refused ≡ keyed_replies response granted refused
by_response response [] [] = refl
by_response response [] (y ∷ ys) = refl
by_response response (x ∷ xs) [] = refl
by_response response (x ∷ xs) (y ∷ ys) = ap (λ some. response_unless_refused some (response (x ∷ xs)) (y ∷ ys)) (ap not (not_zero (length xs) (length (x ∷ xs) == 0) refl))

-- if neither list is empty
pub both_given : {M : Type 0} (some : Bool) (response : M) (refused : List (List ℕ × ErrorCode)) → some ≡ true → length refused ≢ 0 → response_unless_refused some response refused ≡ Reply response ∷ RefusedKeys refused ∷ []
both_given false response refused g r = absurd (false≢true g)
both_given true response [] g r = absurd (r refl)
both_given true response (y ∷ ys) g r = refl

-- if nothing is granted
pub none_given : {M : Type 0} (some : Bool) (response : M) (refused : List (List ℕ × ErrorCode)) → some ≡ false → length refused ≢ 0 → response_unless_refused some response refused ≡ RefusedKeys refused ∷ []
none_given true response refused g r = absurd (true≢false g)
none_given false response [] g r = absurd (r refl)
none_given false response (y ∷ ys) g r = refl
