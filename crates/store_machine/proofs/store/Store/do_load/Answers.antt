use Rattle.std.proofs.Common.{refl, sym, subst, ◌≡◌, ◌+◌, true, length, w64, to_z, of_z}
use Rattle.channel_store.specs.Store.{IsNewPlace}
use Rattle.store_machine.specs.Answers.{has_room_for}
use Rattle.store_machine.specs.Counted.{counted, counted_act}
use Rattle.store_machine.specs.Legal.{IsNext}
use Rattle.store_machine.specs.Loads.{load_act}
use Rattle.store_machine.proofs.ChanneledLemmas.{next-is_new}
use Rattle.store_machine.proofs.LawfulLemmas.{keeps-kept}
use Rattle.store_machine.proofs.LoadingLemmas.{load-kept, load-left}
use Rattle.store_machine.proofs.store.Store.do_load.Goals as goal

pub add_load-requires : goal.add_load-requires
add_load-requires c =
    let s = c.self.inside in
    subst (IsNewPlace (length s.journal.items)) (sym c.self.invariant.channels) (next-is_new s.config s.journal.items)

pub invariant_of-self : goal.invariant_of-self
invariant_of-self c = keeps-kept _ _ _ _ _ _ _ _ _ _ c.self.invariant c.in_err-add_load.ensures.kept (λ key. refl) c.in_err-add_load.ensures.same c.self.invariant.marks

pub invariant_of-self-in-None : goal.invariant_of-self-in-None
invariant_of-self-in-None c =
    let s = c.self.inside in
    let next = subst (λ k. IsNext k.journal c.args.by c.args.nth) (sym c.self.view_is) c.requires.next in
    let room = subst (λ k. has_room_for k.config k.journal (load_act c.args.load) ≡ true) (sym c.self.view_is) c.requires.room in
    let bytes = subst (λ k. c.args.bytes ≡ counted k.journal + counted_act (load_act c.args.load)) (sym c.self.view_is) c.requires.bytes in
    load-kept s.config s.journal.items _ c.args.by c.args.nth (to_z w64 (of_z w64 c.args.at)) s.bytes c.args.bytes s.contents s.channels _ s.alterations c.args.load _ c.self.invariant next c.requires.adds room bytes c.in-None.is
    c.in_ok-add_load.ensures.code c.in_ok-add_load.ensures.added

pub invariant_of-self-in-Some : goal.invariant_of-self-in-Some
invariant_of-self-in-Some c =
    let s = c.self.inside in
    load-left s.config s.journal.items _ s.bytes s.contents s.channels _ s.alterations _ _ c.in-Some.code c.self.invariant c.in-Some.is c.in_ok-add_load.ensures.added
