-- How the relay of a folder stands, from what is found of it.
use Rattle.std.proofs.Common.{◌≡◌, ◌⊎◌, ◌∷◌, [], inl, inr, ℕ, List, Option, None, Some, Result, Ok}
use Rattle.std.proofs.Common.{Err, arith, length, refl, subst, sym}
use Rattle.std.specs.Result.{OnOk}
use Rattle.std.specs.Io.KnownBytes.{Appends, Keeps}
use Rattle.std.specs.declared.io.ErrorKind.{ErrorKind}
use Rattle.std.specs.declared.io.ErrorKind.TheVariants.{OutOfMemory}
use Rattle.block_shelf.specs.Each.{AreEach}
use Rattle.block_shelf.specs.Starting.{IsUnwritten}
use Rattle.cyc_block.specs.declared.store.BlockStore.{Ghosts}
use Rattle.cyc_buffer.specs.Reads.{StaysHeld}
use Rattle.relay_conf.specs.declared.settings.Config.{Config}
use Rattle.relay_report.specs.Serve.{NamesBuffer}
use Rattle.relay_report.specs.declared.fault.ServeError.{ServeError}
use Rattle.relay_report.specs.declared.fault.ServeError.TheVariants as faults
use Rattle.relay_check.specs.Adding.{control_fault}
use Rattle.buffer_files.specs.Files.{IsFileFault}
use Rattle.relay_report.specs.declared.keeping.StartFault.{StartFault}
use Rattle.relay_check.specs.Looking.{StandGives, TellsFailure, refusal_line}
use Rattle.buffer_files.specs.Faults.{IsServeFault}

-- a text of no octets is none
pub no_octets : (text : List ℕ) → length text ≡ 0 → text ≡ []
no_octets [] none = refl
no_octets (octet ∷ octets) none = absurd (omega (arith, none))

-- what holds anyway holds where a call went well
pub on_ok : {A E : Type 0} (result : Result A E) (P : Type 0) → P → OnOk result P
on_ok (Ok done) P holds = holds
on_ok (Err error) P holds = tt

-- stores that are unwritten hold what they held
pub unwritten_held : {S : Type 0} (g : Ghosts S) (old new : List S)
    → AreEach (IsUnwritten g None) old new → AreEach (λ (b : ℕ). StaysHeld g) old new
unwritten_held g old new are = record {
  count = are.count;
  each = λ b store is.
      let later = are.each b store is in
      record { item = later.item; there = later.there; belongs = later.belongs.held };
}

-- a file that can't be had is why a relay isn't served,
pub file_is_served : (config : Config) (error : ServeError) → IsFileFault config.buffers error
    → IsServeFault config error
file_is_served config (faults.File lost) names = names
file_is_served config error memory = subst (IsServeFault config) (sym memory) tt

-- a socket that can't be asked is told so
pub control_looks : (config : Config) (kind : ErrorKind)
    → (control_fault kind ≡ faults.Control) ⊎ IsServeFault config (control_fault kind)
control_looks config OutOfMemory = inr tt
control_looks config kind = inl refl

-- a writer that isn't called holds what it held
pub kept : (held : Option (List ℕ)) → Keeps held held
kept None = tt
kept (Some octets) = refl

-- what is answered is what holds of the failure
of_other : (config : Config) (error told : ServeError) (before after : Option (List ℕ))
    → StandGives config (Err error) before after → told ≡ error
    → StandGives config (Err told) before after
of_other config error told before after gives same =
    subst (λ (it : ServeError). StandGives config (Err it) before after) (sym same) gives

-- that a start would be refused is told, and of any other failure nothing is written
unserved_is_told : (config : Config) (error told : ServeError) (before after : Option (List ℕ))
    → IsServeFault config error → TellsFailure error told before after
    → StandGives config (Err told) before after
unserved_is_told config (faults.Start fault) (faults.Start same) before after names tells =
    let P : StartFault → Type 0 = λ it.
    NamesBuffer config it × Appends before after (refusal_line it) in
    subst P (sym tells.0) (names, tells.1)
unserved_is_told config (faults.Start fault) faults.Memory before after names tells = (tt, tells)
unserved_is_told config (faults.Start fault) faults.Unwritten before after names tells =
    inr (fault, names, tells)
unserved_is_told config (faults.Start fault) (faults.File lost) before after names none =
    absurd none
unserved_is_told config (faults.Start fault) (faults.Port lost) before after names none =
    absurd none
unserved_is_told config (faults.Start fault) faults.Control before after names none = absurd none
unserved_is_told config (faults.Start fault) faults.Unseeded before after names none = absurd none
unserved_is_told config (faults.Start fault) faults.NoThread before after names none = absurd none
unserved_is_told config (faults.Start fault) (faults.Stop stopped) before after names none =
    absurd none
unserved_is_told config (faults.File lost) told before after names tells =
    of_other config (faults.File lost) told before after (names, tells.1) tells.0
unserved_is_told config (faults.Port lost) told before after none tells = absurd none
unserved_is_told config faults.Control told before after none tells = absurd none
unserved_is_told config (faults.Stop stopped) told before after fault tells =
    of_other config (faults.Stop stopped) told before after (tt, tells.1) tells.0
unserved_is_told config faults.Unseeded told before after fault tells =
    of_other config faults.Unseeded told before after (tt, tells.1) tells.0
unserved_is_told config faults.Memory told before after fault tells =
    of_other config faults.Memory told before after (tt, tells.1) tells.0
unserved_is_told config faults.NoThread told before after fault tells =
    of_other config faults.NoThread told before after (tt, tells.1) tells.0
unserved_is_told config faults.Unwritten told before after none tells = absurd none

pub unknown_is_told : (config : Config) (error told : ServeError) (before after : Option (List ℕ))
    → (error ≡ faults.Control) ⊎ IsServeFault config error
    → TellsFailure error told before after → StandGives config (Err told) before after
unknown_is_told config error told before after (inl control) tells =
    let now : TellsFailure faults.Control told before after =
    subst (λ (it : ServeError). TellsFailure it told before after) control tells in
    of_other config faults.Control told before after (tt, now.1) now.0
unknown_is_told config error told before after (inr fault) tells =
    unserved_is_told config error told before after fault tells
