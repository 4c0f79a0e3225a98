-- What holds for every request under keys.
use Rattle.std.specs.Prelude.{ℕ, ◌≡◌, ◌+◌, Bool, List}
use Rattle.std.specs.List.{count_by}
use Rattle.std.specs.Map.{keys_of}
use Rattle.keyed_requests.specs.declared.keys.Decision.{Decision}
use Rattle.keyed_requests.specs.Keyed.{granted, refused_keys}

-- each of these keys is once in the response or the exception that these decisions make, and no other key is
abbrev pub AnswersEach : {R : Type 0} → List (List ℕ) → List (List ℕ × Decision R) → Type 0
AnswersEach keys decided = (is : List ℕ → Bool) → count_by is (keys_of (granted decided)) + count_by is (keys_of (refused_keys decided)) ≡ count_by is keys
