-- Refusals of arrays, their codes, and running out of memory; for the crates above too.
use Rattle.std.proofs.Common.{◌≡◌, ℤ, List, Option, Some, None, Result, Ok, refl, sym, ap, ◌∙◌, subst}
use Rattle.std.specs.Prelude.{IfOk}
use Rattle.std.specs.Option.{option_map, unwrap_or}
use Rattle.etp_values.specs.declared.code.ErrorCode.{ErrorCode}
use Rattle.etp_values.specs.declared.data.AnyArray.{AnyArray}
use Rattle.etp_values.specs.declared.memory.NoMemory.{NoMemory}
use Rattle.array_store.specs.declared.error.ArrayError.{ArrayError}
use Rattle.array_store.specs.declared.error.ArrayError.TheVariants as error
use Rattle.array_store.specs.declared.record.ArrayRecord.{ArrayRecord}
use Rattle.array_store.specs.Codes.{code_of}
use Rattle.array_store.specs.Refusals.{write_refusal}
use Rattle.array_store.specs.Table.{patch_array, patched_at, rewritten, unless_refused}
use Rattle.tx_stage.specs.declared.look.Looked.{Looked}
use Rattle.tx_stage.specs.Looks.{elements_seen, memory_or_refused}
use Rattle.tx_stage.specs.Values.{memory_or_code}

-- how a refusal is seen
seen-refused : (refusal : Option ArrayError) (values : AnyArray) → IfOk (memory_or_refused (unwrap_or refusal error.NoMemory)) (λ l. l ≡ elements_seen refusal values)
seen-refused None values = tt
seen-refused (Some error.Rank) values = refl
seen-refused (Some error.Outside) values = refl
seen-refused (Some error.Kind) values = refl
seen-refused (Some error.Count) values = refl
seen-refused (Some error.TooLarge) values = refl
seen-refused (Some error.NoMemory) values = tt

pub slice-refused : (result : Result Looked NoMemory) (e : ArrayError) (refusal : Option ArrayError) (values : AnyArray) → e ≡ unwrap_or refusal error.NoMemory → result ≡ memory_or_refused e
    → IfOk result (λ l. l ≡ elements_seen refusal values)
slice-refused result e refusal values is given =
    subst (λ r. IfOk r (λ l. l ≡ elements_seen refusal values)) (sym (given ∙ ap memory_or_refused is)) (seen-refused refusal values)

-- a refusal has its code
pub refusal-code : (e : ArrayError) (code : ErrorCode) → memory_or_code e ≡ Ok code → code ≡ code_of e
refusal-code error.Rank code h = cc
refusal-code error.Outside code h = cc
refusal-code error.Kind code h = cc
refusal-code error.Count code h = cc
refusal-code error.TooLarge code h = cc
refusal-code error.NoMemory code h = absurd cc

pub patch-refused : (e : ArrayError) (code : ErrorCode) (refusal : Option ArrayError) (old new : ArrayRecord) → e ≡ unwrap_or refusal error.NoMemory → memory_or_code e ≡ Ok code
    → (old ≡ unless_refused refusal old new) × (Some code ≡ option_map code_of refusal)
patch-refused e code None old new is given = absurd (let h : memory_or_code error.NoMemory ≡ Ok code = ap memory_or_code (sym is) ∙ given in cc)
patch-refused e code (Some f) old new is given = (refl, ap (λ c. Some c) (refusal-code f code (ap memory_or_code (sym is) ∙ given)))

-- a patch that is not refused, and is dated
pub patch-done : (old patched new : ArrayRecord) (starts counts : List ℤ) (given values : AnyArray) (at stored : ℤ) → stored ≡ at → given ≡ values → write_refusal old starts counts given ≡ None
    → patched ≡ patch_array old starts counts given → new ≡ rewritten patched stored → new ≡ patched_at at starts counts values old
patch-done old patched new starts counts given values at stored moment same fits made dated =
    dated ∙ (λ j. rewritten (made j) (moment j)) ∙ ap (λ refusal. unless_refused refusal old (rewritten (patch_array old starts counts given) at)) (sym fits) ∙ ap (λ v. patched_at at starts counts v old) same
