-- Requests whose items are under keys. Each key is checked in the order of the keys, and those that are granted go into the call. What
-- comes back is joined with them, and granted and refused keys then make the reply.
use Rattle.std.specs.Prelude.{ℕ, Bool, true, false, List, [], ◌∷◌, Option, Some, None, map, take, drop}
use Rattle.std.specs.List.{flat_map}
use Rattle.etp_values.specs.declared.code.ErrorCode.{ErrorCode}
use Rattle.keyed_requests.specs.declared.keys.Decision.{Decision}
use Rattle.keyed_requests.specs.declared.keys.Decision.TheVariants.{Granted, Refused}
use Rattle.keyed_requests.specs.declared.sending.Sending.{Sending}
use Rattle.keyed_requests.specs.declared.sending.Sending.TheVariants.{Reply, RefusedKeys}
use Rattle.keyed_requests.specs.declared.sending.Outcome.{Outcome}
use Rattle.keyed_requests.specs.declared.sending.Outcome.TheVariants.{Replies, Calls}

-- ---- before the call

-- each key checked in turn; a key sees what the earlier ones passed on
abbrev pub checked : {S A B : Type 0} → (S → A → S × Decision B) → S → List (List ℕ × A) → List (List ℕ × Decision B)
checked one s [] = []
checked one s (x ∷ xs) = (x.0, (one s x.1).1) ∷ checked one (one s x.1).0 xs

-- what all of them pass on
abbrev pub checked_state : {S A B : Type 0} → (S → A → S × Decision B) → S → List (List ℕ × A) → S
checked_state one s [] = s
checked_state one s (x ∷ xs) = checked_state one (one s x.1).0 xs

-- what is kept of one key while the call is answered
abbrev pub kept_one : {A K : Type 0} → (A → K) → Decision A → Decision K
kept_one keep (Granted a) = Granted (keep a)
kept_one keep (Refused code) = Refused code

-- what is kept of all keys: a refused key keeps its place
abbrev pub kept : {A K : Type 0} → (A → K) → List (List ℕ × Decision A) → List (List ℕ × Decision K)
kept keep items = map (λ x. (x.0, kept_one keep x.1)) items

-- what is sent of one key
abbrev pub sent_one : {A B : Type 0} → (A → B) → List ℕ → Decision A → List (List ℕ × B)
sent_one send key (Granted a) = (key, send a) ∷ []
sent_one send key (Refused code) = []

-- what is sent of all keys: a refused key isn't
abbrev pub sent : {A B : Type 0} → (A → B) → List (List ℕ × Decision A) → List (List ℕ × B)
sent send items = flat_map (λ x. sent_one send x.0 x.1) items

-- ---- after the call: each granted key is finished by its findings, a fixed number for each

-- a key is granted unless there is a cause against it
abbrev pub granted_unless : {R : Type 0} → Option ErrorCode → R → Decision R
granted_unless (Some code) r = Refused code
granted_unless None r = Granted r

-- how many of the findings are a key's
abbrev pub width_of : {B : Type 0} → ℕ → Decision B → ℕ
width_of width (Granted b) = width
width_of width (Refused code) = 0

-- one key finished by its findings: what it passes on, and what is decided about it
abbrev pub finished_one : {S B F R : Type 0} → (S → List ℕ → B → List F → S × Decision R) → S → List ℕ → Decision B → List F → S × Decision R
finished_one one s key (Granted b) found = one s key b found
finished_one one s key (Refused code) found = (s, Refused code)

-- each key finished in turn
abbrev pub finished : {S B F R : Type 0} → (S → List ℕ → B → List F → S × Decision R) → ℕ → S → List (List ℕ × Decision B) → List F → List (List ℕ × Decision R)
finished one width s [] found = []
finished one width s (x ∷ xs) found =
    let step = finished_one one s x.0 x.1 (take (width_of width x.1) found) in
    (x.0, step.1) ∷ finished one width step.0 xs (drop (width_of width x.1) found)

-- what all of them pass on
abbrev pub finished_state : {S B F R : Type 0} → (S → List ℕ → B → List F → S × Decision R) → ℕ → S → List (List ℕ × Decision B) → List F → S
finished_state one width s [] found = s
finished_state one width s (x ∷ xs) found =
    finished_state one width (finished_one one s x.0 x.1 (take (width_of width x.1) found)).0 xs (drop (width_of width x.1) found)

-- ---- the reply

-- a key in the response, if it is granted
abbrev pub granted_one : {B : Type 0} → List ℕ → Decision B → List (List ℕ × B)
granted_one key item = sent_one (λ b. b) key item

-- a key in the exception, if it is refused
abbrev pub refused_one : {B : Type 0} → List ℕ → Decision B → List (List ℕ × ErrorCode)
refused_one key (Granted b) = []
refused_one key (Refused code) = (key, code) ∷ []

-- the granted keys
abbrev pub granted : {B : Type 0} → List (List ℕ × Decision B) → List (List ℕ × B)
granted items = flat_map (λ x. granted_one x.0 x.1) items

-- the refused keys
abbrev pub refused_keys : {B : Type 0} → List (List ℕ × Decision B) → List (List ℕ × ErrorCode)
refused_keys items = flat_map (λ x. refused_one x.0 x.1) items

-- what is sent: the granted keys in the response, if there are any, then the refused ones, if there are any; for no keys at all, an empty
-- response
abbrev pub keyed_replies : {R M : Type 0} → (List (List ℕ × R) → M) → List (List ℕ × R) → List (List ℕ × ErrorCode) → List (Sending M)
keyed_replies response [] [] = Reply (response []) ∷ []
keyed_replies response [] (r ∷ rs) = RefusedKeys (r ∷ rs) ∷ []
keyed_replies response (g ∷ gs) [] = Reply (response (g ∷ gs)) ∷ []
keyed_replies response (g ∷ gs) (r ∷ rs) = Reply (response (g ∷ gs)) ∷ RefusedKeys (r ∷ rs) ∷ []

-- the same for a response that was made from the granted keys, if any key was granted
abbrev pub response_unless_refused : {M : Type 0} → Bool → M → List (List ℕ × ErrorCode) → List (Sending M)
response_unless_refused some response [] = Reply response ∷ []
response_unless_refused false response (r ∷ rs) = RefusedKeys (r ∷ rs) ∷ []
response_unless_refused true response (r ∷ rs) = Reply response ∷ RefusedKeys (r ∷ rs) ∷ []

-- the reply to a request for which this was decided
abbrev pub request_reply : {R M : Type 0} → (List (List ℕ × R) → M) → List (List ℕ × Decision R) → List (Sending M)
request_reply response items = keyed_replies response (granted items) (refused_keys items)

-- the reply to a request of which no key was granted
abbrev pub unasked : {K R M : Type 0} → (List (List ℕ × R) → M) → List (List ℕ × Decision K) → List (Sending M)
unasked response items = keyed_replies response [] (refused_keys items)

-- ---- what comes of a request: if no key is granted no call is made

abbrev pub called : {K T R M : Type 0} → (List (List ℕ × R) → M) → List (List ℕ × Decision K) → List (List ℕ × T) → Outcome (List (List ℕ × T)) (List (List ℕ × Decision K)) M
called response items [] = Replies (unasked response items)
called response items (x ∷ xs) = Calls (x ∷ xs) items

-- what comes of checked keys
abbrev pub request_outcome : {B K T R M : Type 0} → (B → K) → (B → T) → (List (List ℕ × R) → M) → List (List ℕ × Decision B) → Outcome (List (List ℕ × T)) (List (List ℕ × Decision K)) M
request_outcome keep send response items = called response (kept keep items) (sent send items)
