-- What serving a relay answers, and what is printed of it (docs/PROTOCOL.md, `serve`).
use Rattle.std.specs.Prelude.{◌≡◌, ◌≢◌, ℕ, Bool, List, map, Any, Option, Result, Ok, Err}
use denote.Ref.{Bor, MutBor}
use Rattle.std.specs.Prelude.{slice_get, string_bytes}
use Rattle.std.specs.Str.Lossy.{utf8_lossy}
use Rattle.std.specs.Io.KnownBytes.{Appends, Keeps}
use Rattle.relay_conf.specs.declared.settings.Config.{Config}
use Rattle.relay_report.specs.Figures.{name_of}
use Rattle.relay_report.specs.Written.{GainsFront}
use Rattle.relay_report.specs.Totals.{text_of_totals}
use Rattle.relay_report.specs.declared.totals.Totals.{Totals}
use Rattle.relay_report.specs.declared.fault.ServeError.{ServeError}
use Rattle.relay_report.specs.declared.fault.ServeError.TheVariants as faults
use Rattle.relay_report.specs.declared.keeping.StartFault.{StartFault}
use Rattle.relay_report.specs.declared.keeping.StartFault.TheVariants as starts

-- The totals are of a relay of this configuration: they have its buffers and its feeds, in their
-- order, and as many posts as jobs that were accepted.
pub record AreOf (config : Config) (totals : Totals) : Type 0 where
  pub buffers : map (λ b. b.name) totals.figures.buffers.items
      ≡ map (λ b. b.name) config.buffers.buffers.items
  pub feeds : map (λ f. f.peer) totals.figures.feeds.items
      ≡ map (λ f. name_of (slice_get config.relay.peers.items f.peer)) config.relay.feeds.items
  pub posted : totals.posted ≡ totals.accepted

-- the text is the name of a buffer's file, with a mark in the place of what is no UTF-8
abbrev pub NamesFile : Config → List ℕ → Type 0
NamesFile config text = Any (λ b. text ≡ utf8_lossy b.file) config.buffers.buffers.items

-- the number is that of a peer's port, and not the 0 of a peer that isn't served
abbrev pub NamesPort : Config → ℕ → Type 0
NamesPort config number = (number ≢ 0) × Any (λ p. p.port ≡ number) config.relay.peers.items

-- the report of the totals was written, or memory for it was refused and nothing was, or the
-- writer failed, with a front of it
abbrev pub PrintGives : Totals → Result (Unit {0}) ServeError → (before after : Option (List ℕ))
    → Type 0
PrintGives totals (Ok done) before after = Appends before after (text_of_totals totals)
PrintGives totals (Err faults.Memory) before after = Keeps before after
PrintGives totals (Err faults.Unwritten) before after =
    GainsFront (text_of_totals totals) before after
PrintGives totals (Err error) before after = ⊥

-- the fault of a start names a buffer, where it is one of a buffer
abbrev pub NamesBuffer : Config → StartFault → Type 0
NamesBuffer config (starts.Buffer name fault) =
    Any (λ b. string_bytes name ≡ utf8_lossy b.name) config.buffers.buffers.items
NamesBuffer config fault = Unit {0}

-- the failure names what can't be had, where it is a file or a port, or the
-- buffer that has the fault, where a start has one of a buffer
abbrev pub NamesFault : Config → ServeError → Type 0
NamesFault config (faults.File lost) = NamesFile config (string_bytes lost.name)
NamesFault config (faults.Port lost) = NamesPort config lost.number
NamesFault config (faults.Start fault) = NamesBuffer config fault
NamesFault config error = Unit {0}

-- a relay of the configuration was served, and the report of its totals was written; or it wasn't,
-- or memory for the report was refused, and nothing was written; or the writer failed, with a
-- front of the report
abbrev pub ServeGives : Config → Result (Unit {0}) ServeError → (before after : Option (List ℕ))
    → Type 0
ServeGives config (Ok done) before after =
    (totals : Totals) × AreOf config totals × PrintGives totals (Ok done) before after
ServeGives config (Err faults.Unwritten) before after =
    (totals : Totals) × AreOf config totals
    × PrintGives totals (Err faults.Unwritten) before after
ServeGives config (Err error) before after = NamesFault config error × Keeps before after

-- Whatever serves answers rightly: where `post` says what it may answer of a configuration, a
-- folder, a number of connections, whether all is formatted and a writer, and what writer it
-- leaves, that is what serving a relay of the configuration gives.
abbrev pub AnswersRightly : {W : Type 0} → (contents : W → Option (List ℕ))
    → (post : Bor Config → Bor (List ℕ) → Option ℕ → Bool → MutBor W
    → Result (Unit {0}) ServeError → MutBor W → Type 0) → Type 0
AnswersRightly {W} contents post =
    (config : Bor Config) (folder : Bor (List ℕ)) (sessions : Option ℕ) (fresh : Bool)
    (writer : MutBor W) (answer : Result (Unit {0}) ServeError) (after : MutBor W)
    → post config folder sessions fresh writer answer after
    → ServeGives config.now answer (contents writer.now) (contents after.now)
