-- What contracts see of rows.
use Rattle.std.specs.Prelude.{ℕ, List, refl}
use Rattle.std.specs.Coded.{Coded, code_by, coded×, coded_list, coded_ℕ}

-- their items, and how many more they take without allocating
pub record Seen (T : Type 0) : Type 0 where
  pub items : List T
  pub room : ℕ

-- rows are stored as the pair of these
abbrev pub seen_code : {T : Type 0} → Coded T → Coded (Seen T)
seen_code {T} code = code_by (List T × ℕ) (coded× (coded_list code) coded_ℕ) (λ s. (s.items, s.room)) (λ p. record { items = p.0; room = p.1 }) (λ _. refl)
