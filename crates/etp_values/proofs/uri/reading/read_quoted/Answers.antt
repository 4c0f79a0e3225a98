use Rattle.std.proofs.Common.{rules, lit<, ◌++◌, ◌∷◌, [], ℕ, List, Some, None, ap, ◌∙◌, string_bytes}
use Rattle.std.proofs.lemmas.Str.Pattern.{strip_prefix_char}
use Rattle.etp_values.proofs.UriPartLemmas.{IsParted, quoted_end, quoted_more, quoted_none, parts_round, no_parts}
use Rattle.etp_values.proofs.uri.reading.read_quoted.Goals as goal

pub returns-in_default-strip_prefix : goal.returns-in_default-strip_prefix
returns-in_default-strip_prefix c =
    let parts : IsParted 39 c.loop-piece.rest.now c.in-Some.piece.now c.in-Some.behind.now
    = parts_round 39 c.loop-piece.rest.now (c.in-Some.piece, c.in-Some.behind) c.in-Some.ensures.cases (lit< tt) in
    quoted_end (string_bytes c.loop-piece.path) _ _ _ c.args.text.now _ c.loop-piece.invariant.said parts
    (strip_prefix_char 39 c.in-Some.behind.now None c.in_default-strip_prefix.ensures.cases (lit< tt)) c.in_ok-push_str.ensures.bytes

pub loop-piece-preserved : goal.loop-piece-preserved
loop-piece-preserved c =
    let parts : IsParted 39 c.loop-piece.rest.now c.in-Some.piece.now c.in-Some.behind.now
    = parts_round 39 c.loop-piece.rest.now (c.in-Some.piece, c.in-Some.behind) c.in-Some.ensures.cases (lit< tt) in
    record {
      text = search rules;
      said =
          quoted_more (string_bytes c.loop-piece.path) _ _ c.in-Some-strip_prefix.more.now _ c.args.text.now _ c.loop-piece.invariant.said parts
          (strip_prefix_char 39 c.in-Some.behind.now (Some c.in-Some-strip_prefix.more) c.in-Some-strip_prefix.ensures.cases (lit< tt))
          (c.in_ok-push.ensures.bytes ∙ ap (λ (z : List ℕ). string_bytes c.push_str.new.self ++ z) (c.in_ok-push.ensures.ascii (lit< tt))
          ∙ ap (λ (z : List ℕ). z ++ 39 ∷ []) c.in_ok-push_str.ensures.bytes);
    }

pub returns : goal.returns
returns c =
    quoted_none (string_bytes c.loop-piece.path) c.loop-piece.rest.now c.args.text.now c.loop-piece.invariant.said
    (no_parts 39 c.loop-piece.rest.now c.in_default.ensures.cases (lit< tt))
