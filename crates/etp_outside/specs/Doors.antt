-- What a listener gives out and takes back.
use Rattle.std.specs.Prelude.{◌≡◌, ℕ, ◌<◌, Bool, true, false, List, [], ◌∷◌, ◌++◌, length, None, IfSome}
use Rattle.std.specs.declared.option.Option.{Option}
use Rattle.etp_outside.specs.declared.listener.Next.{Next}
use Rattle.etp_outside.specs.declared.listener.Next.TheVariants.{Link, Stop, Failed, NoMemory}
use Rattle.etp_outside.specs.Talk.{Talk}

-- a link over which nothing has come or gone yet
pub record IsNew (talk : Option Talk) (faults : ℕ) (ended : Bool) : Type 0 where
  pub faultless : faults ≡ 0
  pub going : ended ≡ false
  pub taken : IfSome talk (λ t. t.taken ≡ [])
  pub sent : IfSome talk (λ t. t.sent ≡ [])

-- such a link, which a peer made
pub record IsAccepted (talk : Option Talk) (faults : ℕ) (ended : Bool) : Type 0 where
  pub fresh : IsNew talk faults ended
  pub to : IfSome talk (λ t. t.to ≡ None)

-- the link that came, if one did
abbrev pub IfLink : {L : Type 0} → Next L → (L → Type 0) → Type 0
IfLink (Link l) P = P l
IfLink Stop P = Unit {0}
IfLink Failed P = Unit {0}
IfLink NoMemory P = Unit {0}

-- how many links came: one or none
abbrev pub links : {L : Type 0} → Next L → ℕ
links (Link l) = 1
links Stop = 0
links Failed = 0
links NoMemory = 0

-- no further link comes
abbrev pub is_stop : {L : Type 0} → Next L → Bool
is_stop (Link l) = false
is_stop Stop = true
is_stop Failed = false
is_stop NoMemory = false

-- a link that was taken back: the number of its session, how that ended, and what the link reveals
pub record Back : Type 0 where
  pub number : ℕ
  pub end : ℕ
  pub faults : ℕ
  pub ended : Bool
  pub talk : Option Talk

-- these as a link that was taken back
abbrev pub back_of : ℕ → ℕ → ℕ → Bool → Option Talk → Back
back_of number end faults ended talk = record { number = number; end = end; faults = faults; ended = ended; talk = talk }

-- a link came back, if fewer had come back than were given out
abbrev pub TakesBack : ℕ → Back → List Back → List Back → Type 0
TakesBack given back x y = length x < given → y ≡ x ++ back ∷ []
