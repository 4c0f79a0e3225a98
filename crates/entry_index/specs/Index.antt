-- Places by key.
use Rattle.std.specs.Prelude.{ℕ, ◌≤◌, ◌<◌, ◌==◌, Bool, false, List, [], ◌∷◌, ◌++◌, Option, Some, None, if◌then◌else◌, fold, length, map, refl}
use Rattle.std.specs.Coded.{Coded, code_by, coded×, coded_list, coded_ℕ}
use Rattle.std.specs.List.{AllByRecursion}
use Rattle.std.specs.Map.{lookup}
use Rattle.std.specs.Option.{unwrap_or}
use Rattle.entry_index.specs.Chains.{chain, last_of}

-- what a contract sees of an index: the places of each key in order, a place that is past all of them, and how many keys can be noted
-- without allocating
pub record Entries (K : Type 0) : Type 0 where
  pub places : List (K × List ℕ)
  pub past : ℕ
  pub spare : ℕ

-- it is stored as these
abbrev pub entries_code : {K : Type 0} → Coded K → Coded (Entries K)
entries_code {K} code =
    code_by (List (K × List ℕ) × (ℕ × ℕ)) (coded× (coded_list (coded× code (coded_list coded_ℕ))) (coded× coded_ℕ coded_ℕ))
    (λ e. (e.places, (e.past, e.spare))) (λ p. record { places = p.0; past = p.1.0; spare = p.1.1 }) (λ _. refl)

-- the places of a key
abbrev pub places_of : {K : Type 0} → (K → K → Bool) → Entries K → K → List ℕ
places_of same e key = unwrap_or (lookup (same key) e.places) []

-- ---- how they are kept: by key the number of its latest chain

abbrev pub places_in : {K : Type 0} → List (K × ℕ) → List (List ℕ) → List (K × List ℕ)
places_in latest chains = map (λ e. (e.0, chain chains e.1)) latest

abbrev pub number_in : {K : Type 0} → (K → K → Bool) → List (K × ℕ) → K → ℕ
number_in same latest key = unwrap_or (lookup (same key) latest) 0

-- each number has its chain, and no place is past this one
pub record KeepsChains {K : Type 0} (same : K → K → Bool) (latest : List (K × ℕ)) (chains : List (List ℕ)) (place : ℕ) : Type 0 where
  pub within : (key : K) → number_in same latest key ≤ length chains
  pub below : AllByRecursion (AllByRecursion (λ p. p ≤ place)) chains

-- the same for places before this one
pub record KeepsIndex {K : Type 0} (same : K → K → Bool) (latest : List (K × ℕ)) (chains : List (List ℕ)) (past : ℕ) : Type 0 where
  pub within : (key : K) → number_in same latest key ≤ length chains
  pub below : AllByRecursion (AllByRecursion (λ p. p < past)) chains

-- ---- noting

-- this place is the last one
abbrev pub ends_at : Option ℕ → ℕ → Bool
ends_at None place = false
ends_at (Some last) place = last == place

-- a place at the end, once
abbrev pub with_place : ℕ → List ℕ → List ℕ
with_place place ps = if ends_at (last_of ps) place then ps else ps ++ place ∷ []

-- the places of one key after some key was noted at a place, and after each of these was
abbrev pub noted : {K : Type 0} → (K → K → Bool) → ℕ → K → List ℕ → K → List ℕ
noted same place q ps key = if same q key then with_place place ps else ps

abbrev pub noted_all : {K : Type 0} → (K → K → Bool) → ℕ → K → List ℕ → List K → List ℕ
noted_all same place q ps keys = fold (noted same place q) ps keys
