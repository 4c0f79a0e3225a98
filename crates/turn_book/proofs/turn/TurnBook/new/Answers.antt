use Rattle.std.proofs.Common.{◌≡◌, ℕ, List, [], ◌∷◌, Option, Some, length, refl, sym, ap, ◌∙◌, subst}
use Rattle.atomic_table.specs.Table.{opening}
use Rattle.turn_book.specs.Rules.{Ruled}
use Rattle.turn_book.specs.Hands.{IsBegun}
use Rattle.turn_book.specs.Steps.{first_view}
use Rattle.turn_book.proofs.KeptLemmas.{opens}
use Rattle.turn_book.proofs.turn.TurnBook.new.Goals as goal

pub new-requires : goal.new-requires
new-requires g c =
    let T = g.B.Book in
    let b = c.of-about.result.value in
    let same : b ≡ c.args.book = c.of-about.ensures in
    let len : c.len-len.result ≡ length (T.journal b) = c.len-len.ensures ∙ ap (λ x. length (T.journal x)) (sym same) in
    let slots : c.in-Ok.slots.items ≡ Some b ∷ [] = c.in-Ok.ensures ∙ ap (λ x. Some x ∷ []) (sym same) in
    let start = subst (λ x. IsBegun T.by T.enters (T.journal x)) (sym same) c.requires in
    let P : ℕ × List (Option g.row.B.Denot) → Type 0 = λ x. Ruled T.journal T.fixed T.by T.enters (T.fixed b) (opening (0 ∷ x.0 ∷ []) x.1 (first_view (T.journal b) (T.fixed b))) in
    subst P (let u = sym len in let v = sym slots in λ i. (u i, v i)) (opens T.journal T.fixed T.by T.enters (T.fixed b) b start.0 refl start.1 start.2 start.3)
