-- Sums of tallies, for the crates above too.
use Rattle.std.proofs.Common.{◌≡◌, ℕ, ◌+◌, List, [], ◌∷◌, ◌++◌, ap, ap₂, sym, ◌∙◌, arith}
use Rattle.etp_capture.specs.declared.frame.Frame.{Frame}
use Rattle.load_forms.specs.Tally.{nothing_sent, tally_of, plus, tally}
use Rattle.load_forms.specs.declared.tally.Tally.{Tally}

sums : (a b c : ℕ) → (a + b) + c ≡ a + (b + c)
sums a b c = omega arith

pub plus_assoc : (t u v : Tally) → plus (plus t u) v ≡ plus t (plus u v)
plus_assoc t u v = ap₂ (λ (a b : ℕ). record { sent = a; changes = b }) (sums t.sent u.sent v.sent) (sums t.changes u.changes v.changes)

none : (a : ℕ) → a + 0 ≡ a
none a = omega arith

pub plus_nothing : (t : Tally) → plus t nothing_sent ≡ t
plus_nothing t = ap₂ (λ (a b : ℕ). record { sent = a; changes = b }) (none t.sent) (none t.changes)

front : (a : ℕ) → 0 + a ≡ a
front a = omega arith

pub nothing_plus : (t : Tally) → plus nothing_sent t ≡ t
nothing_plus t = ap₂ (λ (a b : ℕ). record { sent = a; changes = b }) (front t.sent) (front t.changes)

pub tally_append : (fs gs : List Frame) → tally (fs ++ gs) ≡ plus (tally fs) (tally gs)
tally_append [] gs = sym (nothing_plus (tally gs))
tally_append (f ∷ fs) gs = ap (plus (tally_of f)) (tally_append fs gs) ∙ sym (plus_assoc (tally_of f) (tally fs) (tally gs))
