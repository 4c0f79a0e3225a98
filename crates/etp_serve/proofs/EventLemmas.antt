-- One more turn.
use Rattle.std.proofs.Common.{◌≡◌, ℕ, ℤ, List, [], ◌∷◌, ◌++◌, refl, ap}
use Rattle.etp_outside.specs.declared.link.Item.{Item}
use Rattle.etp_outside.specs.declared.link.Item.TheVariants.{Message, Idle}
use Rattle.session_core.specs.Arriving.{Receives, Polls}
use Rattle.etp_serve.specs.Events.{events, event_of, Matched, HasMoment}

-- a message whose turn has no front yet
pub events_message : (items : List Item) (ms : List ℤ) (fs : List ℕ) (b : List ℕ) (m : ℤ) → Matched items ms fs
    → events (items ++ Message b ∷ []) (ms ++ m ∷ []) fs ≡ events items ms fs ++ Receives b m ∷ []
events_message [] [] [] b m is = refl
events_message [] [] (f ∷ fs) b m is = absurd is
events_message [] (k ∷ ms) fs b m is = absurd is
events_message (Idle ∷ items) ms [] b m is = absurd is
events_message (Idle ∷ items) ms (f ∷ fs) b m is = ap (λ es. Polls f ∷ es) (events_message items ms fs b m is)
events_message (Message x ∷ items) [] fs b m is = absurd is
events_message (Message x ∷ items) (k ∷ ms) [] b m is = absurd is
events_message (Message x ∷ items) (k ∷ ms) (f ∷ fs) b m is = ap (λ es. Receives x k ∷ Polls f ∷ es) (events_message items ms fs b m is)

-- a whole turn
turn : (item : Item) (ms : List ℤ) (f : ℕ) → HasMoment item ms → events (item ∷ []) ms (f ∷ []) ≡ event_of item ms ++ Polls f ∷ []
turn Idle [] f is = refl
turn Idle (m ∷ ms) f is = refl
turn (Message b) [] f is = absurd (cc (is.1))
turn (Message b) (m ∷ ms) f is = refl

pub events_turn : (items : List Item) (ms : List ℤ) (fs : List ℕ) (item : Item) (m : List ℤ) (f : ℕ) → Matched items ms fs → HasMoment item m
    → events (items ++ item ∷ []) (ms ++ m) (fs ++ f ∷ []) ≡ (events items ms fs ++ event_of item m) ++ Polls f ∷ []
events_turn [] [] [] item m f is has = turn item m f has
events_turn [] [] (x ∷ fs) item m f is has = absurd is
events_turn [] (k ∷ ms) fs item m f is has = absurd is
events_turn (Idle ∷ items) ms [] item m f is has = absurd is
events_turn (Idle ∷ items) ms (x ∷ fs) item m f is has = ap (λ es. Polls x ∷ es) (events_turn items ms fs item m f is has)
events_turn (Message y ∷ items) [] fs item m f is has = absurd is
events_turn (Message y ∷ items) (k ∷ ms) [] item m f is has = absurd is
events_turn (Message y ∷ items) (k ∷ ms) (x ∷ fs) item m f is has = ap (λ es. Receives y k ∷ Polls x ∷ es) (events_turn items ms fs item m f is has)

matched_one : (item : Item) (m : List ℤ) (f : ℕ) → HasMoment item m → Matched (item ∷ []) m (f ∷ [])
matched_one Idle [] f is = tt
matched_one Idle (k ∷ ms) f is = absurd (cc is)
matched_one (Message b) [] f is = absurd (cc (is.1))
matched_one (Message b) (k ∷ []) f is = tt
matched_one (Message b) (k ∷ (j ∷ ms)) f is = absurd (cc (is.1))

pub matched_turn : (items : List Item) (ms : List ℤ) (fs : List ℕ) (item : Item) (m : List ℤ) (f : ℕ) → Matched items ms fs → HasMoment item m
    → Matched (items ++ item ∷ []) (ms ++ m) (fs ++ f ∷ [])
matched_turn [] [] [] item m f is has = matched_one item m f has
matched_turn [] [] (x ∷ fs) item m f is has = absurd is
matched_turn [] (k ∷ ms) fs item m f is has = absurd is
matched_turn (Idle ∷ items) ms [] item m f is has = absurd is
matched_turn (Idle ∷ items) ms (x ∷ fs) item m f is has = matched_turn items ms fs item m f is has
matched_turn (Message y ∷ items) [] fs item m f is has = absurd is
matched_turn (Message y ∷ items) (k ∷ ms) [] item m f is has = absurd is
matched_turn (Message y ∷ items) (k ∷ ms) (x ∷ fs) item m f is has = matched_turn items ms fs item m f is has
