-- A configuration that is too long.
use Rattle.std.proofs.Common.{◌≡◌, ℕ, ◌<◌, List, ◌++◌, length, refl, ap, sym, subst, arith, length-append, None, Some}
use Rattle.std.specs.declared.option.Option.{Option}
use Rattle.std.specs.Io.KnownBytes.{Keeps}
use Rattle.chan_defs.specs.declared.error.DefsError.TheVariants as defs_error
use Rattle.chan_defs.proofs.ReadingLemmas.{defs_long}
use Rattle.etp_outside.specs.Whole.{ReadsPart}
use Rattle.etp_outside.specs.declared.whole.Unread.{Unread}
use Rattle.etp_outside.specs.declared.whole.Unread.TheVariants.{TooLong, Failed, NoMemory}
use Rattle.etp_outside.specs.declared.status.Status.{Status}
use Rattle.config_file.specs.Settings.{refusal_status, unread_status, IsNoConfig}

longer : (xs ys front rest : List ℕ) → ys ≡ xs → ys ≡ front ++ rest → 1048576 < length front → 1048576 < length xs
longer xs ys front rest same is long = omega (arith, ap length same, ap length is, length-append front rest)

no_config : (content old new : Option (List ℕ)) → Keeps content old → ReadsPart TooLong 1048576 old new → IsNoConfig (refusal_status defs_error.TooLong) content
no_config None old new kept part = tt
no_config (Some xs) None new kept part = absurd kept
no_config (Some xs) (Some ys) None kept part = absurd part.2
no_config (Some xs) (Some ys) (Some zs) kept part = (defs_error.TooLong, defs_long xs (longer xs ys part.0 zs kept part.2 part.1), refl)

-- a file that was not read whole gives no configuration
unread : (e : Unread) (content old new : Option (List ℕ)) → Keeps content old → ReadsPart e 1048576 old new → IsNoConfig (unread_status e) content
unread TooLong content old new kept part = no_config content old new kept part
unread Failed content old new kept part = tt
unread NoMemory content old new kept part = tt

pub unread_config : (s : Status) (e : Unread) (content old new : Option (List ℕ)) → Keeps content old → ReadsPart e 1048576 old new → s ≡ unread_status e → IsNoConfig s content
unread_config s e content old new kept part status = subst (λ (t : Status). IsNoConfig t content) (sym status) (unread e content old new kept part)
