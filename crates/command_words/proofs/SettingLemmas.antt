-- How the settings of a command and an argument affect what `clap` reads.
use Rattle.std.proofs.Common.{◌≡◌, ap, true, IsSomeAnd, None, Option, Some}
use Rattle.clap.specs.declared.builder.command.Command.TheViews.{out-Command as fields_of}
use Rattle.clap.specs.Simple.{App, app_of, app_of_fields, on_top}
use Rattle.clap.specs.declared.builder.command.Command.{Command}

-- the same command, if the first word is no program's name
abbrev pub nameless_app : App → App
nameless_app = on_top (λ s. record s { no_binary_name = true })

-- the same command without a flag for help
abbrev pub helpless_app : App → App
helpless_app = on_top (λ s. record s { disable_help_flag = true })

pub nameless : (old new : Command) → fields_of new ≡ record (fields_of old) { no_binary_name = true } → app_of new ≡ nameless_app (app_of old)
nameless old new set = ap app_of_fields set

pub helpless : (old new : Command) → fields_of new ≡ record (fields_of old) { disable_help_flag = true } → app_of new ≡ helpless_app (app_of old)
helpless old new set = ap app_of_fields set

-- an option whose value is known
pub some_and : {A : Type 0} (o : Option A) (v : A) → IsSomeAnd o (λ r. r ≡ v) → o ≡ Some v
some_and None v h = absurd h
some_and (Some r) v h = ap (λ x. Some x) h
