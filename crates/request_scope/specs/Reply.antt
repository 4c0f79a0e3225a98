-- The second half of a request whose keys pass a scope on.
use Rattle.std.specs.Prelude.{ℕ, List, Option}
use Rattle.keyed_requests.specs.Keyed.{finished, finished_state, request_reply}
use Rattle.keyed_requests.specs.declared.keys.Decision.{Decision}
use Rattle.tx_stage.specs.Staging.{Transaction}
use Rattle.request_scope.specs.Scope.{begun}
use Rattle.request_scope.specs.declared.reply.Answered.{Answered}
use Rattle.request_scope.specs.declared.within.Scope.{Scope}

-- the reply, and the transaction as the last key leaves it
abbrev pub scoped_reply : {B F R M : Type 0} → (Scope → List ℕ → B → List F → Scope × Decision R) → ℕ → (List (List ℕ × R) → M) → Option Transaction → List (List ℕ × Decision B) → List F → Answered M
scoped_reply one width response stage items found = record {
  stage = (finished_state one width (begun stage) items found).stage;
  sendings = request_reply response (finished one width (begun stage) items found);
}
