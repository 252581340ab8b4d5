-- What one reading behind another leaves, and what an error says that is passed on.
use Rattle.std.proofs.Common.{◌≡◌, ◌∙◌, sym, subst}
use Rattle.std.specs.Prelude.{Result, Ok, Err, IsErr}
use Rattle.std.specs.Result.{IsErrAnd}
use Rattle.cyc_block.specs.declared.store.BlockStore.{Ghosts}
use Rattle.cyc_buffer.specs.Readings.{ReadsStore}
use Rattle.cyc_buffer.specs.Reads.{StaysHeld}
use Rattle.cyc_buffer.specs.declared.answers.StartError.{StartError}
use Rattle.cyc_buffer.specs.declared.answers.StartError.TheVariants as errors
use Rattle.cyc_buffer.proofs.Refusals.{blamed_on, held_on}

-- what is so of an error is so of the result that hands it on
pub told : {T E : Type 0} (r : Result T E) (error : E)
    → IsErr r × IsErrAnd r (λ made. made ≡ error) → (P : Result T E → Type 0) → P (Err error) → P r
told (Ok x) error gives P so = absurd gives.1
told (Err made) error gives P so = subst (λ e. P (Err e)) (sym gives.1) so

-- an error of one reading as that of another
pub reads_err : {S A B : Type 0} (g : Ghosts S) (old new : S) (error : StartError)
    → ReadsStore {A = A} g old new (Err error) → ReadsStore {A = B} g old new (Err error)
reads_err g old new error reads =
    record { held = reads.held; failed = reads.failed; no_failure = tt }

-- the same, where nothing failed before
pub reads_err_on : {S A B : Type 0} (g : Ghosts S) (old mid new : S) (error : StartError)
    → StaysHeld g old mid → g.failures mid ≡ g.failures old
    → ReadsStore {A = A} g mid new (Err error) → ReadsStore {A = B} g old new (Err error)
reads_err_on g old mid new error held same reads = record {
  held = held_on g old mid new held reads.held;
  failed = blamed_on g old mid new error same reads.failed;
  no_failure = tt;
}

-- what is read without an error, and then is damaged
pub reads_damaged : {S A : Type 0} (g : Ghosts S) (old new : S) → StaysHeld g old new
    → g.failures new ≡ g.failures old → ReadsStore {A = A} g old new (Err errors.Damaged)
reads_damaged g old new held same = record { held = held; failed = same; no_failure = tt }

-- a value that is read behind another
pub reads_ok_on : {S A B : Type 0} (g : Ghosts S) (old mid new : S) (x : A) (y : B)
    → StaysHeld g old mid → g.failures mid ≡ g.failures old → ReadsStore g mid new (Ok x)
    → ReadsStore g old new (Ok y)
reads_ok_on g old mid new x y held same reads = record {
  held = held_on g old mid new held reads.held;
  failed = tt;
  no_failure = reads.no_failure ∙ same;
}
