-- What parts of trees are; for the crates above too.
use Rattle.std.proofs.Common.{ℕ, List, [], ◌∷◌, Some, None, Result, Ok, Err, map, arith}
use Rattle.std.specs.Prelude.{OnOk}
use Rattle.std.specs.List.{AllByRecursion}
use Rattle.etp_values.specs.Entries.{on_value}
use Rattle.avro_bin.proofs.FoundLemmas.{list_row}
use Rattle.avro_bin.specs.Value.{row, list, entries, pairs}
use Rattle.avro_bin.specs.Shape.{HasSchema}
use Rattle.avro_bin.proofs.ViewLemmas.{values}
use Rattle.etp_schema.specs.Form.{Form, Holds, pairs_entries, list_form, named_form, option_form}

pub ruleset parts = (values, list_row, pairs_entries)

all_have : {A : Type 0} (f : Form A) (xs : List A) → AllByRecursion (Holds f) xs → AllByRecursion (HasSchema f.schema) (list (row (map f.as_value xs)))
unfolding Holds
all_have f [] h = tt
all_have f (x ∷ xs) h = (h.0, all_have f xs h.1)

pub list_holds : {A : Type 0} (f : Form A) (xs : List A) → AllByRecursion (Holds f) xs → Holds (list_form f) xs
unfolding Holds
list_holds f xs h = all_have f xs h

all_named_have : {A : Type 0} (f : Form A) (xs : List (List ℕ × A)) → AllByRecursion (λ e. Holds f e.1) xs → AllByRecursion (λ e. HasSchema f.schema e.1) (pairs (entries (map (on_value f.as_value) xs)))
unfolding Holds
all_named_have f [] h = tt
all_named_have f (x ∷ xs) h = (h.0, all_named_have f xs h.1)

pub named_holds : {A : Type 0} (f : Form A) (xs : List (List ℕ × A)) → AllByRecursion (λ e. Holds f e.1) xs → Holds (named_form f) xs
unfolding Holds
named_holds f xs h = all_named_have f xs h

pub none_holds : {A : Type 0} (f : Form A) → Holds (option_form f) None
unfolding Holds
none_holds f = (omega arith, tt)

pub some_holds : {A : Type 0} (f : Form A) (x : A) → Holds f x → Holds (option_form f) (Some x)
unfolding Holds
some_holds f x h = (omega arith, h)

pub on_ok : {T E P : Type 0} (r : Result T E) → P → OnOk r P
on_ok (Ok x) p = p
on_ok (Err e) p = tt

pub typed_as : {A T E : Type 0} (f : Form A) (x : A) (r : Result T E) → OnOk r (Holds f x) → OnOk r (HasSchema f.schema (f.as_value x))
unfolding Holds
typed_as f x (Ok t) h = h
typed_as f x (Err e) h = tt
