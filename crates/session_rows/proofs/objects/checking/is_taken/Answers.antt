use Rattle.std.proofs.Common.{◌≡◌, ◌∙◌, ◌||◌, ◌++◌}
use Rattle.std.specs.Prelude.{codes}
use Rattle.std.specs.List.{list_any}
use Rattle.std.specs.Str.{bytes_eq}
use Rattle.session_rows.proofs.objects.checking.is_taken.Goals as goal

pub returns : goal.returns
returns c =
    let name = c.args.name.now in
    let exact : c.as_str.result.now ≡ name.domain ++ (codes "." ++ name.name) = c.as_str.ensures.value ∙ c.in_ok-exact.ensures.ok ∙ (λ i. c.as_str-domain.ensures i ++ (codes "." ++ c.as_str-kind.ensures i)) in
    let any : c.as_str-2.result.now ≡ name.domain ++ codes ".*" = c.as_str-2.ensures.value ∙ c.in_ok-any.ensures.ok ∙ (λ i. c.as_str-domain.ensures i ++ codes ".*") in
    c.has_either.ensures ∙ (λ i. list_any (λ filter. bytes_eq filter (exact i) || bytes_eq filter (any i)) c.args.filters.now)
