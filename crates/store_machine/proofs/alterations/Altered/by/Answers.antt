use Rattle.std.proofs.Common.{sym, subst, ℤ, IfOk, map}
use Rattle.store_machine.specs.History.{DropSpace, Operate, changes_by}
use Rattle.store_machine.specs.Marking.{Alters}
use Rattle.store_machine.proofs.MarkedLemmas.{at-all}
use Rattle.store_machine.proofs.alterations.Altered.by.Goals as goal

pub returns-in-Enter : goal.returns-in-Enter
returns-in-Enter c = λ at. subst (λ a. Alters (changes_by at a) c.none.result.own c.none.result.whole) (sym c.in-Enter.is) c.none.ensures

pub returns-in-PutSpaces : goal.returns-in-PutSpaces
returns-in-PutSpaces c =
    subst (λ a. IfOk c.by_puts.result (λ r. (at : ℤ) → Alters (changes_by at a) r.own r.whole)) (sym c.in-PutSpaces.is) c.by_puts.ensures

pub returns-in-DropSpaces : goal.returns-in-DropSpaces
returns-in-DropSpaces c =
    subst (λ a. IfOk c.by_drops.result (λ r. (at : ℤ) → Alters (changes_by at a) r.own r.whole)) (sym c.in-DropSpaces.is)
    (at-all (λ r. Alters (map DropSpace c.in-DropSpaces.paths) r.own r.whole) c.by_drops.result c.by_drops.ensures)

pub returns-in-Put : goal.returns-in-Put
returns-in-Put c =
    subst (λ a. IfOk c.by_ops.result (λ r. (at : ℤ) → Alters (changes_by at a) r.own r.whole)) (sym c.in-Put.is)
    (at-all (λ r. Alters (map Operate c.in-Put.ops) r.own r.whole) c.by_ops.result c.by_ops.ensures)

pub returns-in-Commit : goal.returns-in-Commit
returns-in-Commit c =
    subst (λ a. IfOk c.by_ops-in-Commit.result (λ r. (at : ℤ) → Alters (changes_by at a) r.own r.whole)) (sym c.in-Commit.is)
    (at-all (λ r. Alters (map Operate c.in-Commit.staged.ops) r.own r.whole) c.by_ops-in-Commit.result c.by_ops-in-Commit.ensures)

pub returns-in-Append : goal.returns-in-Append
returns-in-Append c = λ at. subst (λ a. Alters (changes_by at a) c.none-in-Append.result.own c.none-in-Append.result.whole) (sym c.in-Append.is) c.none-in-Append.ensures

pub returns-in-Replace : goal.returns-in-Replace
returns-in-Replace c = λ at. subst (λ a. Alters (changes_by at a) c.none-in-Replace.result.own c.none-in-Replace.result.whole) (sym c.in-Replace.is) c.none-in-Replace.ensures

pub returns-in-Truncate : goal.returns-in-Truncate
returns-in-Truncate c = λ at. subst (λ a. Alters (changes_by at a) c.none-in-Truncate.result.own c.none-in-Truncate.result.whole) (sym c.in-Truncate.is) c.none-in-Truncate.ensures
