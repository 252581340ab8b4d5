-- The files of the buffers are flushed while a relay is served (docs/PROTOCOL.md, Crashes: what
-- `serve` does).
use Rattle.std.specs.Prelude.{◌≡◌, ℕ, ◌+◌, ◌&&◌, nat_le, nat_lt, Bool, true, false, List, []}
use Rattle.std.specs.Prelude.{◌∷◌, ◌++◌, length, map, Option, None, Some}
use Rattle.file_blocks.specs.Host.{flushed_identity, held_identity}
use Rattle.file_blocks.specs.declared.host.HeldFile.{HeldFile}
use Rattle.file_blocks.specs.declared.which.Identity.{Identity}
use Rattle.relay_conf.specs.declared.settings.Config.{Config}
use Rattle.relay_devices.specs.declared.syncing.Deed.{Deed}
use Rattle.relay_devices.specs.declared.syncing.Deed.TheVariants.{Flushed, Told}
use Rattle.relay_devices.specs.declared.syncing.SyncedFile.{SyncedFile}
use Rattle.relay_devices.specs.declared.syncing.Syncing.{Syncing}

-- what is done with a file whose flush failed or not: it is flushed once, and a failure is told
abbrev pub deeds_of : {F : Type 0} → F → (failed : Bool) → List (F × Deed)
deeds_of file true = (file, Flushed true) ∷ (file, Told) ∷ []
deeds_of file false = (file, Flushed false) ∷ []

-- the same of files, one after the other, as far as there are answers
unfoldable pub round_of : {F : Type 0} → List F → (answers : List Bool) → List (F × Deed)
round_of [] answers = []
round_of (file ∷ files) [] = []
round_of (file ∷ files) (failed ∷ answers) = deeds_of file failed ++ round_of files answers

-- to what was done came that this file was flushed, and that this failed, where it did
pub record FlushesOne {F : Type 0} (file : F) (old new : List (F × Deed)) : Type 0 where
  pub failed : Bool
  pub done : new ≡ old ++ deeds_of file failed

-- To what was done came a round: each of these files was flushed once, in their order, and each
-- failure told at once. Where the end of the relay was seen the round may have ended early.
pub record IsRound {F : Type 0} (files : List F) (seen : Bool) (old new : List (F × Deed))
    : Type 0 where
  pub answers : List Bool
  pub done : new ≡ old ++ round_of files answers
  pub whole : seen ≡ false → length answers ≡ length files

-- a round is due: so many seconds after the last one has begun, and in none in which that went on
abbrev pub is_due : (begun ended every now : ℕ) → Bool
is_due begun ended every now = nat_le (begun + every) now && nat_lt ended now

-- the name of the buffer whose file it is
abbrev pub name_in : SyncedFile → List ℕ
name_in file = file.name.now

-- which file it is
abbrev pub identity_in : SyncedFile → Identity
identity_in file = flushed_identity file.file

-- Files are flushed as relay.conf says: not at all without a line, else each so many seconds, each
-- file that is held, by the name of its buffer.
abbrev pub SyncsAs : Config → (held : List HeldFile) → Option Syncing → Type 0
SyncsAs config held None = config.relay.sync ≡ None
SyncsAs config held (Some syncing) =
    (config.relay.sync ≡ Some syncing.every)
    × (map name_in syncing.files.items ≡ map (λ buffer. buffer.name) config.buffers.buffers.items)
    × (map identity_in syncing.files.items ≡ map held_identity held)
