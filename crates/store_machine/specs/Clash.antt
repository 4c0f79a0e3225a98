-- Conflicts of transactions: which entry altered what a transaction had touched before.
use Rattle.std.specs.Prelude.{ℕ, min, List, [], ◌∷◌, Option, Some, None, drop}
use Rattle.entry_index.specs.Where.{first_where}
use Rattle.tx_stage.specs.declared.key.Key.{Key}
use Rattle.tx_stage.specs.declared.op.Op.{Op}
use Rattle.tx_stage.specs.declared.touch.Staged.{Staged}
use Rattle.tx_stage.specs.declared.touch.Touch.{Touch}
use Rattle.store_machine.specs.declared.journal.Act.{Act}
use Rattle.store_machine.specs.declared.journal.Act.TheVariants.{Commit}
use Rattle.store_machine.specs.declared.journal.Entry.{Entry}
use Rattle.store_machine.specs.History.{entry_alters}

-- the lesser of two places, if there are two
abbrev pub least : Option ℕ → Option ℕ → Option ℕ
least None b = b
least (Some a) None = Some a
least (Some a) (Some b) = Some (min a b)

-- the first place from `from` on whose entry alters a key
abbrev pub clash : Key → ℕ → List Entry → Option ℕ
clash key from history = first_where (entry_alters key) from (drop from history)

-- the first place whose entry alters a touched key at or past the length that the journal had when it was touched
abbrev pub conflict : List Touch → List Entry → Option ℕ
conflict [] history = None
conflict (t ∷ ts) history = least (clash t.key t.mark history) (conflict ts history)

-- an act of these operations, if there are any
abbrev pub act_with : List Op → Act → List Act
act_with [] a = []
act_with (o ∷ os) a = a ∷ []

-- a transaction makes one entry of all its operations, if there is no conflict and it has any
abbrev pub commit_of : Option ℕ → Staged → List Act
commit_of None staged = act_with staged.ops (Commit staged)
commit_of (Some place) staged = []
