use Rattle.std.proofs.Common.{arith, ap, sym, subst, ◌∙◌, ◌≡◌, nat_cmp, length}
use Rattle.std.proofs.lemmas.Grind.{common_steps}
use Rattle.std.specs.Cmp.Lexicographic.{slice_cmp}
use Rattle.std.specs.List.Sorted.{IsStrictlySortedBy}
use Rattle.std.specs.Map.{keys_of}
use Rattle.store_machine.specs.declared.call.StoreCall.TheVariants as call
use Rattle.store_machine.specs.Answers.{answer}
use Rattle.store_machine.specs.Reads.{whole_room}
use Rattle.store_machine.specs.Starts.{EndsInRange, started}
use Rattle.store_machine.proofs.BeginningLemmas.{names-started, starts-answer}
use Rattle.store_machine.proofs.RangedLemmas.{ends-in_range}
use Rattle.store_machine.proofs.store.Store.subscribe.Goals as goal

pub starts-requires : goal.starts-requires
starts-requires c =
    let s = c.self.inside in
    subst EndsInRange (sym c.self.invariant.channels) (ends-in_range s.config s.journal.items c.self.invariant.legal)

pub from_sorted-requires : goal.from_sorted-requires
from_sorted-requires c =
    let cs = c.self.inside.channels in
    let given : c.in_ok-starts.starts.items ≡ started cs whole_room c.args.items = c.in_ok-starts.ensures ∙ ap (started cs whole_room) c.into_vec.ensures.items in
    subst (IsStrictlySortedBy (slice_cmp nat_cmp)) (sym (ap keys_of given ∙ names-started cs whole_room c.args.items)) c.into_vec.ensures.sorted

pub returns-clause-answer : goal.returns-clause-answer
returns-clause-answer c =
    let s = c.self.inside in
    let mark : c.len-mark.result ≡ length s.journal.items = grind (arith, common_steps) in
    let given : c.from_sorted.result ≡ started s.channels whole_room c.args.items = c.from_sorted.ensures ∙ c.in_ok-starts.ensures ∙ ap (started s.channels whole_room) c.into_vec.ensures.items in
    starts-answer s.config s.journal.items s.channels c.args.items c.from_sorted.result c.len-mark.result mark c.self.invariant.channels given
    ∙ ap (λ k. answer k.config k.journal (call.Subscribe c.args.items)) c.self.view_is
