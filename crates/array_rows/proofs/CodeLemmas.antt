-- A refusal of an array that isn't running out of memory has its code.
use Rattle.std.proofs.Common.{◌≡◌, ◌∙◌, Option, Some, None, Ok, sym, ap}
use Rattle.std.specs.Option.{option_map, unwrap_or}
use Rattle.tx_stage.proofs.RefusedLemmas.{refusal-code}
use Rattle.etp_values.specs.declared.code.ErrorCode.{ErrorCode}
use Rattle.array_store.specs.declared.error.ArrayError.{ArrayError}
use Rattle.array_store.specs.declared.error.ArrayError.TheVariants as error
use Rattle.array_store.specs.Codes.{code_of}
use Rattle.tx_stage.specs.Values.{memory_or_code}

pub refusal_code : (e : ArrayError) (code : ErrorCode) (refusal : Option ArrayError) → e ≡ unwrap_or refusal error.NoMemory → memory_or_code e ≡ Ok code → Some code ≡ option_map code_of refusal
refusal_code e code None is given = absurd (let h : memory_or_code error.NoMemory ≡ Ok code = ap memory_or_code (sym is) ∙ given in cc)
refusal_code e code (Some f) is given = ap (λ c. Some c) (refusal-code f code (ap memory_or_code (sym is) ∙ given))
