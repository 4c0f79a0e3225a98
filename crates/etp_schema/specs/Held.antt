-- Which items are held this way.
use Rattle.std.specs.Prelude.{List}
use Rattle.etp_schema.specs.declared.few.Held.{Held}
use Rattle.etp_schema.specs.declared.few.Held.TheVariants.{One, Many}

abbrev pub items_in : {T : Type 0} → Held T → List T
items_in (One xs) = xs
items_in (Many xs) = xs
