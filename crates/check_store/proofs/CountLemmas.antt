-- A session's entries, counted one after the other.
use Rattle.std.specs.Prelude.{ℕ, List, [], ◌∷◌, ◌≡◌, ◌≤◌, ◌+◌, Some, slice_get, length, drop}
use Rattle.std.proofs.Common.{ap, arith}
use Rattle.std.proofs.lemmas.List.{drop_all}
use Rattle.store_machine.specs.declared.journal.Entry.{Entry}
use Rattle.store_machine.specs.Legal.{own}
use Rattle.store_machine.proofs.NumberLemmas.{own-step}

-- a count over the whole journal
pub counted_all : (by : ℕ) (log : List Entry) (count place : ℕ) → length log ≤ place → count + length (own by (drop place log)) ≡ length (own by log) → count ≡ length (own by log)
counted_all by log count place past is =
    let none_left : length (own by (drop place log)) ≡ 0 = ap (λ (l : List Entry). length (own by l)) (drop_all place log past) in
    omega (arith, none_left, is)

-- one place more
pub counted_on : (by : ℕ) (log : List Entry) (count place more : ℕ) (e : Entry) → slice_get log place ≡ Some e → more ≡ length (own by (e ∷ []))
    → count + length (own by (drop place log)) ≡ length (own by log) → (count + more) + length (own by (drop (place + 1) log)) ≡ length (own by log)
counted_on by log count place more e at one is =
    let step = own-step by log place e at in
    omega (arith, step, one, is)
