use Rattle.std.proofs.Common.{rules, lit<, ◌++◌, ◌∷◌, [], ℕ, List, ap, ◌∙◌, sym, string_bytes}
use Rattle.etp_values.proofs.UriPartLemmas.{IsParted, put_piece, doubled_plain, parts_round, no_parts}
use Rattle.etp_values.proofs.uri.writing.put_doubled.Goals as goal

pub loop-piece-preserved : goal.loop-piece-preserved
loop-piece-preserved c =
    let parts : IsParted 39 c.loop-piece.rest.now c.in-Some.piece.now c.in-Some.behind.now
    = parts_round 39 c.loop-piece.rest.now (c.in-Some.piece, c.in-Some.behind) c.in-Some.ensures.cases (lit< tt) in
    record {
      text = search rules;
      put =
          put_piece (string_bytes c.loop-piece.out) _ c.in-Some.behind.now _ _ parts
          (c.in_ok-push_str-2.ensures.bytes ∙ ap (λ (z : List ℕ). z ++ 39 ∷ 39 ∷ []) c.in_ok-push_str.ensures.bytes) ∙ c.loop-piece.invariant.put;
    }

pub returns : goal.returns
returns c =
    c.in_ok-push_str-3.ensures.bytes
    ∙ ap (λ (z : List ℕ). string_bytes c.loop-piece.out ++ z) (sym (doubled_plain c.loop-piece.rest.now (no_parts 39 c.loop-piece.rest.now c.in_default.ensures.cases (lit< tt))))
    ∙ c.loop-piece.invariant.put
