-- Requests whose keys have nothing but their items: nothing of them is kept, and one finding decides each.
use Rattle.std.specs.Prelude.{ℕ, List, [], ◌∷◌}
use Rattle.etp_values.specs.declared.code.ErrorCode.TheVariants.{RequestDenied}
use Rattle.keyed_requests.specs.declared.keys.Decision.{Decision}
use Rattle.keyed_requests.specs.declared.keys.Decision.TheVariants.{Refused}
use Rattle.keyed_requests.specs.declared.sending.Sending.{Sending}
use Rattle.keyed_requests.specs.declared.sending.Outcome.{Outcome}
use Rattle.keyed_requests.specs.Keyed.{request_outcome, checked, finished, request_reply}

-- what is kept of a granted key, and what a key passes on
abbrev pub nothing : Unit {0}
nothing = tt

-- what the first finding decides; with none, the key is denied
abbrev pub by_first : {F R : Type 0} → (F → Decision R) → List F → Decision R
by_first decide [] = Refused RequestDenied
by_first decide (f ∷ fs) = decide f

-- what comes of a plain request
abbrev pub plain_outcome : {A T R M : Type 0} → (A → Decision T) → (List (List ℕ × R) → M) → List (List ℕ × A) → Outcome (List (List ℕ × T)) (List (List ℕ × Decision (Unit {0}))) M
plain_outcome check response items = request_outcome (λ sent. nothing) (λ sent. sent) response (checked (λ s item. (s, check item)) nothing items)

-- the reply to a plain request
abbrev pub plain_reply : {F R M : Type 0} → (F → Decision R) → (List (List ℕ × R) → M) → List (List ℕ × Decision (Unit {0})) → List F → List (Sending M)
plain_reply decide response items found = request_reply response (finished (λ s key kept found. (s, by_first decide found)) 1 nothing items found)
