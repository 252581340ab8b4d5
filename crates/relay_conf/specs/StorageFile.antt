-- storage.conf: what its lines say together.
use Rattle.std.specs.Prelude.{ℕ, nat_lt, Bool, false, List, [], ◌∷◌, ◌++◌, length, filter_map}
use Rattle.std.specs.Prelude.{reverse, codes, bytes_eq, Option, None, Some, Result, Ok, Err}
use Rattle.std.specs.Prelude.{if◌then◌else◌}
use Rattle.std.specs.List.{position_or_len}
use Rattle.news_terms.specs.Pattern.{Marked}
use Rattle.news_terms.specs.StorageClass.{Entry}
use Rattle.relay_conf.specs.declared.faults.Fault.{Fault}
use Rattle.relay_conf.specs.declared.faults.Fault.TheVariants.{Syntax, UnknownName}
use Rattle.relay_conf.specs.declared.faults.LineFault.{LineFault}
use Rattle.relay_conf.specs.declared.storage_lines.Place.{Place}
use Rattle.relay_conf.specs.declared.storage_lines.Place.TheVariants.{Outside, InEntry, InOther}
use Rattle.relay_conf.specs.declared.storage_lines.Sizes.{Sizes}
use Rattle.relay_conf.specs.Cycbuff.{Group}
use Rattle.relay_conf.specs.Faults.{first_fault, whole_fault, unless_fault}
use Rattle.relay_conf.specs.Relay.{once, first_or}
use Rattle.relay_conf.specs.StorageLines.{SaidLine, RawSays, storage_line, Skipped, Opens, Closes}
use Rattle.relay_conf.specs.StorageLines.{Ends, ClassLine, NewsgroupsLine, OptionsLine, SizeLine}
use Rattle.relay_conf.specs.StorageLines.{ExactLine}

-- where the lines behind `method NAME {` stand (docs/FORMATS.md, Configuration)
abbrev pub place_in : (method : List ℕ) → Place
place_in method = if bytes_eq method (codes "cnfs") then InEntry else InOther

-- where what follows the line stands, where the line opens or closes an entry (docs/FORMATS.md,
-- Configuration)
abbrev pub mark_of : SaidLine → Option Place
mark_of (Err fault) = None
mark_of (Ok Skipped) = None
mark_of (Ok (Opens method)) = Some (place_in method)
mark_of (Ok Closes) = Some Outside
mark_of (Ok Ends) = Some Outside
mark_of (Ok (ClassLine class)) = None
mark_of (Ok (NewsgroupsLine expression)) = None
mark_of (Ok (OptionsLine group)) = None
mark_of (Ok (SizeLine sizes)) = None
mark_of (Ok (ExactLine exact)) = None

-- where a line behind these stands: the last of them that opens or closes an entry says it
-- (docs/FORMATS.md, Configuration)
abbrev pub place_behind : (before : List SaidLine) → Place
place_behind before = first_or Outside (filter_map mark_of (reverse before))

-- a line and those before it, last first, unless it opens or closes an entry
abbrev pub up_to_mark : Option Place → (line : SaidLine) → (earlier : List SaidLine) → List SaidLine
up_to_mark None line earlier = line ∷ earlier
up_to_mark (Some place) line earlier = []

-- these lines, last first, up to the first that opens or closes an entry
abbrev pub back_to_mark : List SaidLine → List SaidLine
back_to_mark [] = []
back_to_mark (line ∷ earlier) = up_to_mark (mark_of line) line (back_to_mark earlier)

-- the lines of the entry behind these: those behind the last line that opens or closes one
-- (docs/FORMATS.md, Configuration)
abbrev pub entry_lines : (before : List SaidLine) → List SaidLine
entry_lines before = reverse (back_to_mark (reverse before))

-- the class that a line says
abbrev pub class_of : SaidLine → Option ℕ
class_of (Err fault) = None
class_of (Ok Skipped) = None
class_of (Ok (Opens method)) = None
class_of (Ok Closes) = None
class_of (Ok Ends) = None
class_of (Ok (ClassLine class)) = Some class
class_of (Ok (NewsgroupsLine expression)) = None
class_of (Ok (OptionsLine group)) = None
class_of (Ok (SizeLine sizes)) = None
class_of (Ok (ExactLine exact)) = None

-- the expression that a line says
abbrev pub newsgroups_of : SaidLine → Option (List Marked)
newsgroups_of (Err fault) = None
newsgroups_of (Ok Skipped) = None
newsgroups_of (Ok (Opens method)) = None
newsgroups_of (Ok Closes) = None
newsgroups_of (Ok Ends) = None
newsgroups_of (Ok (ClassLine class)) = None
newsgroups_of (Ok (NewsgroupsLine expression)) = Some expression
newsgroups_of (Ok (OptionsLine group)) = None
newsgroups_of (Ok (SizeLine sizes)) = None
newsgroups_of (Ok (ExactLine exact)) = None

-- the number of the group of a name: how many stand before the first of that name
-- (docs/FORMATS.md, Configuration)
abbrev pub group_number : List Group → (name : List ℕ) → ℕ
group_number groups name = position_or_len (λ group. bytes_eq name group.name) groups

-- a group has this name (docs/FORMATS.md, Configuration)
abbrev pub is_group : List Group → (name : List ℕ) → Bool
is_group groups name = nat_lt (group_number groups name) (length groups)

-- the number of the group that a line names
abbrev pub group_of : List Group → SaidLine → Option ℕ
group_of groups (Err fault) = None
group_of groups (Ok Skipped) = None
group_of groups (Ok (Opens method)) = None
group_of groups (Ok Closes) = None
group_of groups (Ok Ends) = None
group_of groups (Ok (ClassLine class)) = None
group_of groups (Ok (NewsgroupsLine expression)) = None
group_of groups (Ok (OptionsLine group)) = Some (group_number groups group)
group_of groups (Ok (SizeLine sizes)) = None
group_of groups (Ok (ExactLine exact)) = None

-- the sizes that a line says
abbrev pub size_of : SaidLine → Option Sizes
size_of (Err fault) = None
size_of (Ok Skipped) = None
size_of (Ok (Opens method)) = None
size_of (Ok Closes) = None
size_of (Ok Ends) = None
size_of (Ok (ClassLine class)) = None
size_of (Ok (NewsgroupsLine expression)) = None
size_of (Ok (OptionsLine group)) = None
size_of (Ok (SizeLine sizes)) = Some sizes
size_of (Ok (ExactLine exact)) = None

-- the exactmatch that a line says
abbrev pub exact_of : SaidLine → Option Bool
exact_of (Err fault) = None
exact_of (Ok Skipped) = None
exact_of (Ok (Opens method)) = None
exact_of (Ok Closes) = None
exact_of (Ok Ends) = None
exact_of (Ok (ClassLine class)) = None
exact_of (Ok (NewsgroupsLine expression)) = None
exact_of (Ok (OptionsLine group)) = None
exact_of (Ok (SizeLine sizes)) = None
exact_of (Ok (ExactLine exact)) = Some exact

-- what the lines of an entry say, key by key
pub record Stand : Type 0 where
  pub classes : List ℕ
  pub newsgroups : List (List Marked)
  pub numbers : List ℕ
  pub sizes : List Sizes
  pub exacts : List Bool

-- the same of these lines
abbrev pub stand_of : List Group → (entry : List SaidLine) → Stand
stand_of groups entry =
    record {
      classes = filter_map class_of entry;
      newsgroups = filter_map newsgroups_of entry;
      numbers = filter_map (group_of groups) entry;
      sizes = filter_map size_of entry;
      exacts = filter_map exact_of entry;
    }

-- what stands of the entry behind these lines
abbrev pub stand_behind : List Group → (before : List SaidLine) → Stand
stand_behind groups before = stand_of groups (entry_lines before)

-- a key that an entry needs, at its `}` (docs/FORMATS.md, Configuration)
abbrev pub needed : {X : Type 0} → List X → (others : Option Fault) → Option Fault
needed [] others = Some Syntax
needed (first ∷ more) others = others

-- what is wrong with a line inside an entry of which this stands, looked for line by line: its own
-- fault, a key for the second time, a `}` without a needed key (docs/FORMATS.md, Configuration)
abbrev pub line_fault : Stand → SaidLine → Option Fault
line_fault stand (Err fault) = Some fault
line_fault stand (Ok Skipped) = None
line_fault stand (Ok (Opens method)) = None
line_fault stand (Ok Closes) =
    needed stand.classes (needed stand.newsgroups (needed stand.numbers None))
line_fault stand (Ok Ends) = None
line_fault stand (Ok (ClassLine class)) = once stand.classes
line_fault stand (Ok (NewsgroupsLine expression)) = once stand.newsgroups
line_fault stand (Ok (OptionsLine group)) = once stand.numbers
line_fault stand (Ok (SizeLine sizes)) = once stand.sizes
line_fault stand (Ok (ExactLine exact)) = once stand.exacts

-- the same behind the lines before it (docs/FORMATS.md, Configuration)
abbrev pub early_fault : List Group → (before : List SaidLine) → SaidLine → Option Fault
early_fault groups before line = line_fault (stand_behind groups before) line

-- an entry without its `}` (docs/FORMATS.md, Configuration)
abbrev pub open_fault : Place → Option Fault
open_fault Outside = None
open_fault InEntry = Some Syntax
open_fault InOther = Some Syntax

-- what is wrong with a line, looked for after the last line: another method than cnfs, a name of no
-- group (docs/FORMATS.md, Configuration)
abbrev pub named_fault : List Group → SaidLine → Option Fault
named_fault groups (Err fault) = None
named_fault groups (Ok Skipped) = None
named_fault groups (Ok (Opens method)) =
    if bytes_eq method (codes "cnfs") then None else Some UnknownName
named_fault groups (Ok Closes) = None
named_fault groups (Ok Ends) = None
named_fault groups (Ok (ClassLine class)) = None
named_fault groups (Ok (NewsgroupsLine expression)) = None
named_fault groups (Ok (OptionsLine group)) =
    if is_group groups group then None else Some UnknownName
named_fault groups (Ok (SizeLine sizes)) = None
named_fault groups (Ok (ExactLine exact)) = None

-- the same behind the lines before it (docs/FORMATS.md, Configuration)
abbrev pub late_fault : List Group → (before : List SaidLine) → SaidLine → Option Fault
late_fault groups before line = named_fault groups line

-- every size (docs/FORMATS.md, Configuration)
abbrev pub every_size : Sizes
every_size = record { smallest = 0; largest = None }

-- the entry of which this stands: every size and no exactmatch where no line says them
-- (docs/FORMATS.md, Configuration)
abbrev pub entry_of : Stand → Entry
entry_of stand =
    record {
      smallest = (first_or every_size stand.sizes).smallest;
      largest = (first_or every_size stand.sizes).largest;
      newsgroups = first_or [] stand.newsgroups;
      exactmatch = first_or false stand.exacts;
      class = first_or 0 stand.classes;
      group = first_or 0 stand.numbers;
    }

-- the entry that a line closes, of which this stands
abbrev pub closed_by : Stand → SaidLine → List Entry
closed_by stand (Err fault) = []
closed_by stand (Ok Skipped) = []
closed_by stand (Ok (Opens method)) = []
closed_by stand (Ok Closes) = entry_of stand ∷ []
closed_by stand (Ok Ends) = []
closed_by stand (Ok (ClassLine class)) = []
closed_by stand (Ok (NewsgroupsLine expression)) = []
closed_by stand (Ok (OptionsLine group)) = []
closed_by stand (Ok (SizeLine sizes)) = []
closed_by stand (Ok (ExactLine exact)) = []

-- the entries that lines close behind others, one for each `}` of an entry of cnfs
-- (docs/FORMATS.md, Configuration)
abbrev pub entries_of : List Group → (before said : List SaidLine) → List Entry
entries_of groups before [] = []
entries_of groups before (line ∷ more) =
    closed_by (stand_behind groups before) line ++ entries_of groups (before ++ line ∷ []) more

-- what lines say together: the first fault of a line, else that of the whole file, else the first
-- that is looked for after the last line, else the entries (docs/FORMATS.md, Configuration)
abbrev pub storage_said : List Group → List SaidLine → Result (List Entry) LineFault
storage_said groups said =
    unless_fault (first_fault (early_fault groups) [] said)
    (unless_fault (whole_fault (open_fault (place_behind said)))
    (unless_fault (first_fault (late_fault groups) [] said)
    (Ok (entries_of groups [] said))))

-- what a line of storage.conf says behind these (docs/FORMATS.md, Configuration)
abbrev pub LineSays : (before : List SaidLine) → (line : List ℕ) → SaidLine → Type 0
LineSays before line said = RawSays (storage_line (place_behind before) line) said
