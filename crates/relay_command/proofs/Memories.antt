-- Memory that ran out, and is passed on.
use Rattle.std.proofs.Common.{◌≡◌, ◌∙◌, Result, Ok, Err, IfOk, IfErr}
use Rattle.std.specs.Result.{IsErr, IsErrAnd}
use Rattle.relay_command.specs.declared.load.CheckError.{CheckError}
use Rattle.relay_command.specs.declared.load.CheckError.TheVariants.{Memory}

-- What fails gives nothing,
pub gives_none : {T : Type 0} (P : T → Type 0) (result : Result T CheckError) → IsErr result
    → IfOk result P
gives_none P (Ok value) is = absurd (cc is)
gives_none P (Err error) is = tt

-- and where it fails with an error that is want of memory, it wants memory.
pub wants_memory : {T : Type 0} (result : Result T CheckError) (error : CheckError)
    → IsErrAnd result (λ e. e ≡ error) → error ≡ Memory → IfErr result (λ e. e ≡ Memory)
wants_memory (Ok value) error same is = tt
wants_memory (Err passed) error same is = same ∙ is
