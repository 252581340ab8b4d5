-- What adding buffers to a relay that was stopped answers, and what is printed of it
-- (docs/PROTOCOL.md, `add-buffer`).
use Rattle.std.specs.Prelude.{◌≡◌, ℕ, ◌+◌, ◌≤◌, List, [], ◌∷◌, ◌++◌, codes, decimal, drop, length}
use Rattle.std.specs.Prelude.{Option, Result, Ok, Err, string_bytes}
use denote.Ref.{Bor, MutBor}
use Rattle.std.specs.Io.KnownBytes.{Appends, Keeps}
use Rattle.relay_conf.specs.declared.cycbuff.BufferConf.{BufferConf}
use Rattle.relay_conf.specs.declared.settings.Config.{Config}
use Rattle.relay_report.specs.Serve.{NamesBuffer, NamesFile}
use Rattle.relay_report.specs.Written.{GainsFront}
use Rattle.relay_report.specs.declared.fault.ServeError.{ServeError}
use Rattle.relay_report.specs.declared.fault.ServeError.TheVariants as faults

-- a number behind its name
abbrev pub named : (name : List ℕ) → ℕ → List ℕ
named name number = name ++ decimal number

-- the line of a buffer that was added, of this number, under a stop:
-- `added buffer=B number=1 blocks=8 stop=1`
abbrev pub added_line : (number stop : ℕ) → BufferConf → List ℕ
added_line number stop buffer =
    codes "added buffer=" ++ buffer.name ++ named (codes " number=") number
    ++ named (codes " blocks=") buffer.blocks ++ named (codes " stop=") stop ++ codes "\n"

-- the lines of buffers whose numbers begin with this one
unfoldable pub added_lines : (number stop : ℕ) → List BufferConf → List ℕ
added_lines number stop [] = []
added_lines number stop (buffer ∷ more) =
    added_line number stop buffer ++ added_lines (number + 1) stop more

-- what is told of buffers that were added, whose numbers begin with this one
abbrev pub told_of_added : (first stop : ℕ) → List BufferConf → List ℕ
told_of_added first stop [] = codes "nothing to add\n"
told_of_added first stop (buffer ∷ more) = added_lines first stop (buffer ∷ more)

-- what is told where the buffers from this number on were added under this stop
abbrev pub added_text : (first stop : ℕ) → List BufferConf → List ℕ
added_text first stop buffers = told_of_added first stop (drop first buffers)

-- The failure is one of adding buffers: it names what can't be had where it is a file, or the
-- buffer that has the fault; no port, no thread and no random number is asked for, and nothing is
-- stopped.
abbrev pub IsAddFault : Config → ServeError → Type 0
IsAddFault config (faults.File lost) = NamesFile config (string_bytes lost.name)
IsAddFault config (faults.Port lost) = ⊥
IsAddFault config faults.Control = Unit {0}
IsAddFault config (faults.Start fault) = NamesBuffer config fault
IsAddFault config faults.Unseeded = ⊥
IsAddFault config faults.Memory = Unit {0}
IsAddFault config faults.NoThread = ⊥
IsAddFault config (faults.Stop fault) = ⊥
IsAddFault config faults.Unwritten = ⊥

-- the buffers of a configuration from some number on are those that are added, and this text tells
-- of them
pub record TellsAdded (config : Config) (text : List ℕ) : Type 0 where
  pub first : ℕ
  pub stop : ℕ
  pub within : first ≤ length config.buffers.buffers.items
  pub told : text ≡ added_text first stop config.buffers.buffers.items

-- buffers were added, and what is told of them was written; or they weren't, and nothing was
-- written; or the writer failed, with a front of what is told
abbrev pub AddGives : Config → Result (Unit {0}) ServeError → (before after : Option (List ℕ))
    → Type 0
AddGives config (Ok done) before after =
    (text : List ℕ) × TellsAdded config text × Appends before after text
AddGives config (Err faults.Unwritten) before after =
    (text : List ℕ) × TellsAdded config text × GainsFront text before after
AddGives config (Err error) before after = IsAddFault config error × Keeps before after

-- Whatever adds buffers answers rightly: where `post` says what it may answer of a configuration, a
-- folder and a writer, and what writer it leaves, that is what adding buffers gives.
abbrev pub AddsRightly : {W : Type 0} → (contents : W → Option (List ℕ))
    → (post : Bor Config → Bor (List ℕ) → MutBor W → Result (Unit {0}) ServeError → MutBor W
    → Type 0) → Type 0
AddsRightly {W} contents post =
    (config : Bor Config) (folder : Bor (List ℕ)) (writer : MutBor W)
    (answer : Result (Unit {0}) ServeError) (after : MutBor W)
    → post config folder writer answer after
    → AddGives config.now answer (contents writer.now) (contents after.now)
