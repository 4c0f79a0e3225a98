-- What is numbered so far makes the whole with what is left.
use Rattle.std.specs.Prelude.{◌≡◌, ℕ, ◌+◌, Bool, List, [], ◌∷◌, ◌++◌}
use Rattle.std.proofs.Common.{ap, sym, ◌∙◌, append_assoc}
use Rattle.etp_frame.specs.Wire.{message_bytes}
use Rattle.etp_frame.specs.declared.message.Message.{Message}
use Rattle.client_core.specs.Asking.{header_of, is_last, numbered}

pub numbered_more : (first id : ℕ) (m : Message) (items rest : List Message) (last : Bool) (before after whole : List (List ℕ)) → items ≡ m ∷ rest → last ≡ is_last rest
    → after ≡ before ++ message_bytes (header_of first id last m) m ∷ [] → before ++ numbered first id items ≡ whole → after ++ numbered first (id + 2) rest ≡ whole
numbered_more first id m items rest last before after whole step lasts pushed so_far =
    ap (λ l. l ++ numbered first (id + 2) rest) pushed
    ∙ append_assoc before (message_bytes (header_of first id last m) m ∷ []) (numbered first (id + 2) rest)
    ∙ ap (λ t. before ++ (message_bytes (header_of first id t m) m ∷ numbered first (id + 2) rest)) lasts
    ∙ ap (λ l. before ++ numbered first id l) (sym step)
    ∙ so_far
