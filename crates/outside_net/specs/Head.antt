-- Which keys a door answers, and how.
use Rattle.std.specs.Prelude.{◌≡◌, Bool, true, false, List, [], ◌∷◌, ℕ, codes}
use Rattle.httparse.specs.declared.borrowed.Header.{Header}
use Rattle.websocket.specs.Handshake.{IsValidKey, accept_key_of, response_bytes}
use Rattle.outside_net.specs.declared.head.Head.{Head}
use Rattle.outside_net.specs.declared.head.Head.TheVariants.{Part, Asks, Refused}
use Rattle.outside_net.specs.declared.head.Upgrade.{Upgrade}

-- the answer is that to a valid key
abbrev pub IsAnswered : Upgrade → Type 0
IsAnswered u = (key : List ℕ) × IsValidKey key × (u.accept ≡ accept_key_of key)

-- what is asked for, if it is a WebSocket
abbrev pub IfAsks : Head → (Upgrade → Type 0) → Type 0
IfAsks Part P = Unit {0}
IfAsks (Asks u) P = P u
IfAsks (Refused r) P = Unit {0}

-- the answer that accepts a request: with the subprotocol, if it was offered, and otherwise with no line more
abbrev pub IsAcceptance : Bool → List ℕ → List ℕ → Type 0
IsAcceptance true accept bytes =
    (h : Header) × (h.name.now ≡ codes "sec-websocket-protocol") × (h.value.now ≡ codes "etp12.energistics.org")
    × (bytes ≡ response_bytes accept (h ∷ []))
IsAcceptance false accept bytes = bytes ≡ response_bytes accept []
