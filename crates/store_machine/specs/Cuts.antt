-- Truncations: which are accepted, and the verdicts on them.
use Rattle.std.specs.Prelude.{ℕ, ℤ, List, [], ◌∷◌, ◌++◌, Option, Some, None}
use Rattle.channel_store.specs.declared.error.ChannelError.{ChannelError}
use Rattle.channel_store.specs.Channels.{Channel}
use Rattle.channel_store.specs.Refusals.{cut_refusal}
use Rattle.store_machine.specs.declared.call.Cutting.{Cutting}
use Rattle.store_machine.specs.declared.call.Verdict.{Verdict}
use Rattle.store_machine.specs.declared.call.Verdict.TheVariants.{Accepted, Refused}
use Rattle.store_machine.specs.Channels.{cut_of, code_of}

-- the verdict by a refusal, if there is one
abbrev pub cut_verdict : Option ChannelError → Verdict
cut_verdict None = Accepted
cut_verdict (Some e) = Refused (code_of e)

-- the verdicts on the items of a call in order; each is judged together with the channels that earlier items name, including refused ones
abbrev pub cut_verdicts : List Channel → List ℤ → List (List ℕ × Cutting) → List (List ℕ × Verdict)
cut_verdicts cs earlier [] = []
cut_verdicts cs earlier (i ∷ is) = (i.0, cut_verdict (cut_refusal cs earlier (cut_of i.1))) ∷ cut_verdicts cs (earlier ++ i.1.channel ∷ []) is

-- a cut before others, unless it is refused
abbrev pub unless_cut_refused : Option ChannelError → Cutting → List Cutting → List Cutting
unless_cut_refused None c rest = c ∷ rest
unless_cut_refused (Some e) c rest = rest

-- the cuts that are accepted
abbrev pub cuts_accepted : List Channel → List ℤ → List Cutting → List Cutting
cuts_accepted cs earlier [] = []
cuts_accepted cs earlier (c ∷ rest) = unless_cut_refused (cut_refusal cs earlier (cut_of c)) c (cuts_accepted cs (earlier ++ c.channel ∷ []) rest)
