use Rattle.std.proofs.Common.{arith, ap, sym, subst, ◌∙◌, ◌≡◌, nat_cmp, length, map}
use Rattle.std.proofs.lemmas.Grind.{common_steps}
use Rattle.std.specs.Cmp.Lexicographic.{slice_cmp}
use Rattle.std.specs.List.Sorted.{IsStrictlySortedBy}
use Rattle.std.specs.Map.{keys_of}
use Rattle.store_machine.specs.declared.call.StoreCall.TheVariants as call
use Rattle.store_machine.specs.Answers.{answer}
use Rattle.store_machine.specs.Reads.{meta_under}
use Rattle.store_machine.proofs.ReadingLemmas.{metas-answer, names-metas}
use Rattle.store_machine.proofs.store.Store.meta.Goals as goal

pub from_sorted-requires : goal.from_sorted-requires
from_sorted-requires c =
    let cs = c.self.inside.channels in
    let given : c.in_ok-metas.metas.items ≡ map (meta_under cs) c.args.items = c.in_ok-metas.ensures ∙ ap (map (meta_under cs)) c.into_vec.ensures.items in
    subst (IsStrictlySortedBy (slice_cmp nat_cmp)) (sym (ap keys_of given ∙ names-metas cs c.args.items)) c.into_vec.ensures.sorted

pub returns-clause-answer : goal.returns-clause-answer
returns-clause-answer c =
    let s = c.self.inside in
    let mark : c.len-mark.result ≡ length s.journal.items = grind (arith, common_steps) in
    let given : c.from_sorted.result ≡ map (meta_under s.channels) c.args.items = c.from_sorted.ensures ∙ c.in_ok-metas.ensures ∙ ap (map (meta_under s.channels)) c.into_vec.ensures.items in
    metas-answer s.config s.journal.items s.channels c.args.items c.from_sorted.result c.len-mark.result mark c.self.invariant.channels given
    ∙ ap (λ k. answer k.config k.journal (call.Meta c.args.items)) c.self.view_is
