-- Noting continues by one key.
use Rattle.std.specs.Prelude.{ℕ, List, ◌∷◌, ◌++◌, ◌≡◌, Option, drop, map, take}
use Rattle.std.proofs.Common.{ap, sym, ◌∙◌, append_assoc}
use Rattle.etp_values.specs.declared.code.ErrorCode.{ErrorCode}
use Rattle.tx_stage.specs.Staging.{Transaction}
use Rattle.tx_stage.specs.declared.key.Key.{Key}
use Rattle.tx_stage.specs.declared.look.Looked.{Looked}
use Rattle.session_core.specs.Noting.{found_by, found_noted, key_refusal, note, note_all}

-- what is found under a key, and then under the others
pub found_more : (mark : ℕ) (x x' : Transaction) (key : Key) (items rest : List Key) (out out' left left' : List Looked) (refusal : Option ErrorCode) (all : List Looked)
    → items ≡ key ∷ rest → refusal ≡ key_refusal x key → x' ≡ note mark x key → out' ≡ out ++ map (found_by refusal) (take 1 left) → left' ≡ drop 1 left
    → out ++ found_noted mark x items left ≡ all → out' ++ found_noted mark x' rest left' ≡ all
found_more mark x x' key items rest out out' left left' refusal all is why new pushed moved so_far =
    ap (λ l. l ++ found_noted mark x' rest left') pushed
    ∙ ap (λ y. (out ++ map (found_by refusal) (take 1 left)) ++ found_noted mark y rest left') new
    ∙ ap (λ l. (out ++ map (found_by refusal) (take 1 left)) ++ found_noted mark (note mark x key) rest l) moved
    ∙ append_assoc out (map (found_by refusal) (take 1 left)) (found_noted mark (note mark x key) rest (drop 1 left))
    ∙ ap (λ (r : Option ErrorCode). out ++ (map (found_by r) (take 1 left) ++ found_noted mark (note mark x key) rest (drop 1 left))) why
    ∙ ap (λ l. out ++ found_noted mark x l left) (sym is)
    ∙ so_far

-- what is noted with a key, and then with the others
pub note_more : (mark : ℕ) (x x' : Transaction) (key : Key) (items rest : List Key) (all : Transaction)
    → items ≡ key ∷ rest → x' ≡ note mark x key → note_all mark x items ≡ all → note_all mark x' rest ≡ all
note_more mark x x' key items rest all is new so_far = ap (λ y. note_all mark y rest) new ∙ ap (λ l. note_all mark x l) (sym is) ∙ so_far
