-- Lines of storage.conf that were read, as the definitions have them.
use Rattle.std.specs.Prelude.{ℕ, List, map, Result, Ok, Err}
use Rattle.news_terms.specs.StorageClass.{Entry}
use Rattle.relay_conf.specs.declared.faults.Fault.{Fault}
use Rattle.relay_conf.specs.declared.faults.LineFault.{LineFault}
use Rattle.relay_conf.specs.declared.faults.ConfError.{ConfError}
use Rattle.relay_conf.specs.declared.storage_lines.Line.{Line}
use Rattle.relay_conf.specs.declared.storage_lines.Line.TheVariants as lines
use Rattle.relay_conf.specs.declared.settings.StorageEntry.{StorageEntry}
use Rattle.std.specs.Global.{Vec}
use Rattle.relay_conf.specs.Cycbuff.{Group}
use Rattle.relay_conf.specs.LineByLine.{SayTogether, HaveFault, LinesGive}
use Rattle.relay_conf.specs.Storage.{entry_view}
use Rattle.relay_conf.specs.StorageLines.{StorageLine, RawLine}
use Rattle.relay_conf.specs.StorageFile.{LineSays, early_fault, storage_said}
use Rattle.relay_conf.specs.StorageLines.{Skipped, Opens, Closes, Ends, ClassLine, NewsgroupsLine}
use Rattle.relay_conf.specs.StorageLines.{OptionsLine, SizeLine, ExactLine}

-- a line of storage.conf as the definitions have it, its expression as text
abbrev pub raw_view : Line → StorageLine (List ℕ)
raw_view lines.Skipped = Skipped
raw_view (lines.Opens method) = Opens method.now
raw_view lines.Closes = Closes
raw_view lines.Ends = Ends
raw_view (lines.Class class) = ClassLine class
raw_view (lines.Newsgroups text) = NewsgroupsLine text.now
raw_view (lines.Options group) = OptionsLine group.now
raw_view (lines.Size sizes) = SizeLine sizes
raw_view (lines.ExactMatch exact) = ExactLine exact

-- the answer is what a line says alone
abbrev pub raw_by : Result Line Fault → RawLine
raw_by (Ok line) = Ok (raw_view line)
raw_by (Err fault) = Err fault

-- the lines say these entries together, over these groups (docs/FORMATS.md, Configuration)
abbrev pub HasEntries : (groups : List Group) (lines : List (List ℕ)) → List Entry → Type 0
HasEntries groups lines entries = SayTogether LineSays (storage_said groups) lines (Ok entries)

-- the lines have this fault over these groups (docs/FORMATS.md, Configuration)
abbrev pub HasFault : (groups : List Group) (lines : List (List ℕ)) → LineFault → Type 0
HasFault groups lines fault =
    HaveFault LineSays (early_fault groups) (storage_said groups) lines fault

-- the answer is what the lines of storage.conf say over these groups, unless memory ran out
abbrev pub StorageGives : Result (Vec StorageEntry) ConfError → List Group → (lines : List (List ℕ))
    → Type 0
StorageGives result groups lines =
    LinesGive (λ (storage_entries : Vec StorageEntry). map entry_view storage_entries.items)
    LineSays (early_fault groups)
    (storage_said groups) result lines
