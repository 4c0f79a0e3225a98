use Rattle.std.proofs.Common.{◌≡◌, ◌∙◌, ◌++◌, ◌∷◌, [], List, length, sym, ap, arith, append-nil, append_assoc}
use Rattle.std.proofs.lemmas.Result.{err_from_is_err_and}
use Rattle.avro_bin.specs.declared.fault.Why.TheVariants as why
use Rattle.avro_bin.specs.Laws.{IsBytes}
use Rattle.avro_pieces.specs.declared.level.Level.{Level}
use Rattle.avro_pieces.specs.Levels.{IsLevel}
use Rattle.avro_pieces.proofs.GoingLemmas.{all_front, all_both, tied_on, goes_on, all_fail, going_fails}
use Rattle.avro_pieces.proofs.going.advance.Goals as goal

pub returns-in_err-level-clause-fails : goal.returns-in_err-level-clause-fails
returns-in_err-level-clause-fails c =
    let fits : IsBytes c.args.bytes.now = λ i. omega (arith, c.type_inv.bytes i) in
    let p = err_from_is_err_and c.from_residual.result c.from_residual.ensures.1 in
    rw (p.1, p.2) (going_fails c.args.table.now.nodes.now c.args.id c.args.bytes.now fits c.args.going.levels.items c.pop.new.self.items c.in-Some.level c.in-Some.ensures.items c.args.going.allowed c.args.going.rest.now c.requires.going.tied c.requires.going.continues c.in_err-level.field-0.0 c.in_err-level.ensures.fails)

pub returns-in_ok-push-in-Short-clause-moves : goal.returns-in_ok-push-in-Short-clause-moves
returns-in_ok-push-in-Short-clause-moves c =
    let fits : IsBytes c.args.bytes.now = λ i. omega (arith, c.type_inv.bytes i) in
    let t = rw c.in-Short.is at c.in_ok-level.ensures.turns in
    let back : c.push.new.self.items ≡ c.args.going.levels.items = c.in_ok-push-in-Short.ensures.items ∙ ap (λ (l : Level). c.pop.new.self.items ++ l ∷ []) t.0 ∙ sym c.in-Some.ensures.items in (
      record {
        tied = c.requires.going.tied;
        there = rw back c.requires.going.there;
        continues = rw back c.requires.going.continues;
      },
      (t.1.0, rw back (all_fail c.args.table.now.nodes.now c.args.id c.args.bytes.now fits c.args.going.levels.items c.pop.new.self.items c.in-Some.level c.in-Some.ensures.items c.args.going.allowed c.args.going.rest.now c.requires.going.tied c.requires.going.continues why.Short t.1.0 t.1.1)),
    )

pub returns-in-Over-clause-moves : goal.returns-in-Over-clause-moves
returns-in-Over-clause-moves c =
    let fits : IsBytes c.args.bytes.now = λ i. omega (arith, c.type_inv.bytes i) in
    let t = rw c.in-Over.is at c.in_ok-level.ensures.turns in
    let front : List Level = c.pop.new.self.items in
    let was = rw c.in-Some.ensures.items at c.requires.going.there in
    record {
      tied = tied_on c.args.table.now.nodes.now c.args.id c.args.bytes.now fits c.args.going.levels.items front c.in-Some.level c.in-Some.ensures.items c.args.going.allowed c.args.going.rest.now c.requires.going.tied c.requires.going.continues [] c.in-Over.allowed c.in-Over.rest.now t;
      there = all_front (IsLevel c.args.table.now.nodes.now (length c.args.bytes.now)) front (c.in-Some.level ∷ []) was;
      continues = rw (sym (append-nil front)) (goes_on c.args.table.now.nodes.now c.args.id c.args.bytes.now fits c.args.going.levels.items front c.in-Some.level c.in-Some.ensures.items c.args.going.allowed c.args.going.rest.now c.requires.going.tied c.requires.going.continues [] c.in-Over.allowed c.in-Over.rest.now t);
    }

pub returns-in_ok-push-in-Into-clause-moves : goal.returns-in_ok-push-in-Into-clause-moves
returns-in_ok-push-in-Into-clause-moves c =
    let fits : IsBytes c.args.bytes.now = λ i. omega (arith, c.type_inv.bytes i) in
    let t = rw c.in-Into.is at c.in_ok-level.ensures.turns in
    let front : List Level = c.pop.new.self.items in
    let was = rw c.in-Some.ensures.items at c.requires.going.there in
    let is = c.in_ok-push-in-Into.ensures.items in
    record {
      tied = tied_on c.args.table.now.nodes.now c.args.id c.args.bytes.now fits c.args.going.levels.items front c.in-Some.level c.in-Some.ensures.items c.args.going.allowed c.args.going.rest.now c.requires.going.tied c.requires.going.continues (c.in-Into.level ∷ []) c.in-Into.allowed c.in-Into.rest.now t.0;
      there = rw is (all_both (IsLevel c.args.table.now.nodes.now (length c.args.bytes.now)) front (c.in-Into.level ∷ []) (all_front (IsLevel c.args.table.now.nodes.now (length c.args.bytes.now)) front (c.in-Some.level ∷ []) was) (t.1, tt));
      continues = rw is (goes_on c.args.table.now.nodes.now c.args.id c.args.bytes.now fits c.args.going.levels.items front c.in-Some.level c.in-Some.ensures.items c.args.going.allowed c.args.going.rest.now c.requires.going.tied c.requires.going.continues (c.in-Into.level ∷ []) c.in-Into.allowed c.in-Into.rest.now t.0);
    }

pub returns-in_ok-push-in-Inside-2-clause-moves : goal.returns-in_ok-push-in-Inside-2-clause-moves
returns-in_ok-push-in-Inside-2-clause-moves c =
    let fits : IsBytes c.args.bytes.now = λ i. omega (arith, c.type_inv.bytes i) in
    let t = rw c.in-Inside.is at c.in_ok-level.ensures.turns in
    let front : List Level = c.pop.new.self.items in
    let parts : List Level = c.in-Inside.outer ∷ c.in-Inside.inner ∷ [] in
    let was = rw c.in-Some.ensures.items at c.requires.going.there in
    let is = c.in_ok-push-in-Inside-2.ensures.items ∙ ap (λ (ls : List Level). ls ++ c.in-Inside.inner ∷ []) c.in_ok-push-in-Inside.ensures.items ∙ append_assoc front (c.in-Inside.outer ∷ []) (c.in-Inside.inner ∷ []) in
    record {
      tied = tied_on c.args.table.now.nodes.now c.args.id c.args.bytes.now fits c.args.going.levels.items front c.in-Some.level c.in-Some.ensures.items c.args.going.allowed c.args.going.rest.now c.requires.going.tied c.requires.going.continues parts c.in-Inside.allowed c.in-Inside.rest.now t.0;
      there = rw is (all_both (IsLevel c.args.table.now.nodes.now (length c.args.bytes.now)) front parts (all_front (IsLevel c.args.table.now.nodes.now (length c.args.bytes.now)) front (c.in-Some.level ∷ []) was) (t.1, (t.2, tt)));
      continues = rw is (goes_on c.args.table.now.nodes.now c.args.id c.args.bytes.now fits c.args.going.levels.items front c.in-Some.level c.in-Some.ensures.items c.args.going.allowed c.args.going.rest.now c.requires.going.tied c.requires.going.continues parts c.in-Inside.allowed c.in-Inside.rest.now t.0);
    }
