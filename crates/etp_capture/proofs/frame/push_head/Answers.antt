use Rattle.std.proofs.Common.{◌≡◌, ℕ, List, [], ◌∷◌, ◌++◌, ◌∙◌, ap, append_assoc, ◌%◌, ◌^◌}
use Rattle.std.specs.Int.{to_be_bytes, cast_unsigned, w32, w64}
use Rattle.std.proofs.lemmas.Int.{to_z-of_z}
use Rattle.etp_capture.proofs.frame.push_head.Goals as goal

-- four pieces, one after the other
joined : (v0 v1 v2 v3 v4 a b c a' b' c' : List ℕ) (k : ℕ) → v1 ≡ v0 ++ k ∷ [] → v2 ≡ v1 ++ a → v3 ≡ v2 ++ b → v4 ≡ v3 ++ c → a ≡ a' → b ≡ b' → c ≡ c' → v4 ≡ v0 ++ (k ∷ (a' ++ (b' ++ c')))
joined v0 v1 v2 v3 v4 a b c a' b' c' k e1 e2 e3 e4 ea eb ec =
    e4 ∙ ap (λ l. l ++ c) (e3 ∙ ap (λ l. l ++ b) (e2 ∙ ap (λ l. l ++ a) e1)) ∙ simp (append_assoc, ea, eb, ec)

pub returns-clause-ok : goal.returns-clause-ok
returns-clause-ok c =
    joined c.args.into.now.items _ _ _ _ _ _ _ (to_be_bytes w32 c.args.tag) (to_be_bytes w64 (cast_unsigned w64 c.args.moment)) (to_be_bytes w32 (c.args.length % 2 ^ 32)) c.args.kind
    c.in_ok-push.ensures.items c.in_ok-extend_from_slice.ensures.items c.in_ok-extend_from_slice-2.ensures.items c.in_ok-extend_from_slice-3.ensures.items
    c.to_be_bytes.ensures (c.moment_bytes.ensures ∙ ap (λ z. to_be_bytes w64 (cast_unsigned w64 z)) (to_z-of_z w64 c.args.moment c.ranges.moment)) c.to_be_bytes-2.ensures
