-- cycbuff.conf: what its lines say, one by one and together.
use Rattle.std.specs.Prelude.{ℕ, ◌*◌, ◌==◌, ◌&&◌, ◌||◌, not, nat_le, nat_lt, Bool, false, List, []}
use Rattle.std.specs.Prelude.{◌∷◌, ◌++◌, length, map, filter_map, codes, bytes_eq, Option, None}
use Rattle.std.specs.Prelude.{Some, Result, Ok, Err, if◌then◌else◌}
use Rattle.std.specs.List.{list_all, list_any, position_or_len}
use Rattle.std.specs.Str.{byte}
use Rattle.news_terms.specs.Article.{is_empty, without_outer_white}
use Rattle.relay_conf.specs.declared.faults.Fault.{Fault}
use Rattle.relay_conf.specs.declared.faults.Fault.TheVariants.{Syntax, UnknownKey, Duplicate}
use Rattle.relay_conf.specs.declared.faults.Fault.TheVariants.{UnknownName, Number, Shared}
use Rattle.relay_conf.specs.declared.faults.Fault.TheVariants.{NoBuffers}
use Rattle.relay_conf.specs.declared.faults.LineFault.{LineFault}
use Rattle.relay_conf.specs.declared.cycbuff.Mode.{Mode}
use Rattle.relay_conf.specs.declared.cycbuff.Mode.TheVariants.{Interleave, Sequential}
use Rattle.relay_conf.specs.declared.cycbuff.BufferConf.{BufferConf}
use Rattle.relay_conf.specs.Faults.{first_fault, whole_fault, unless_fault}
use Rattle.line_words.specs.Comments.{is_skipped}
use Rattle.line_words.specs.Parts.{parts}
use Rattle.relay_conf.specs.Words.{is_name}
use Rattle.line_words.specs.Numbers.{number_within}

-- what a line of cycbuff.conf says, faults apart (docs/FORMATS.md, Configuration)
pub data CycbuffLine : Type 0 where
  -- a comment, an empty line, or a key that is accepted and ignored
  Skipped : CycbuffLine
  -- `cycbuff:NAME:FILE:SIZE`
  BufferLine : (name file : List ℕ) (blocks : ℕ) → CycbuffLine
  -- `metacycbuff:NAME:BUF,BUF[:MODE]`
  GroupLine : (name : List ℕ) (members : List (List ℕ)) (mode : Mode) → CycbuffLine

-- the names in a list: none in an empty one (docs/FORMATS.md, Configuration)
abbrev pub members_of : List ℕ → List (List ℕ)
members_of list = if is_empty list then [] else parts (byte ",") list

-- the mode that the word is, None where it is another (docs/FORMATS.md, Configuration)
abbrev pub mode_of : List ℕ → Option Mode
mode_of word =
    if bytes_eq word (codes "INTERLEAVE") then Some Interleave
    else if bytes_eq word (codes "SEQUENTIAL") then Some Sequential
    else None

-- the path of a file: one octet or more, none of them NUL (docs/FORMATS.md, Configuration)
abbrev pub is_file : List ℕ → Bool
is_file file = not (is_empty file) && not (list_any (λ c. c == 0) file)

-- a buffer of two blocks of 512 octets for each kilobyte, or Number where its size is none
-- (docs/FORMATS.md, Configuration)
abbrev pub buffer_sized : (name file : List ℕ) → Option ℕ → Result CycbuffLine Fault
buffer_sized name file None = Err Number
buffer_sized name file (Some kilobytes) = Ok (BufferLine name file (2 * kilobytes))

-- what follows `cycbuff:` (docs/FORMATS.md, Configuration)
abbrev pub buffer_line : List (List ℕ) → Result CycbuffLine Fault
buffer_line [] = Err Syntax
buffer_line (name ∷ []) = Err Syntax
buffer_line (name ∷ file ∷ []) = Err Syntax
buffer_line (name ∷ file ∷ size ∷ []) =
    if is_name name && is_file file
    then buffer_sized name file (number_within 1 2097152 size)
    else Err Syntax
buffer_line (name ∷ file ∷ size ∷ other ∷ more) = Err Syntax

-- a group, or Syntax where its mode is none (docs/FORMATS.md, Configuration)
abbrev pub group_moded : (name list : List ℕ) → Option Mode → Result CycbuffLine Fault
group_moded name list None = Err Syntax
group_moded name list (Some mode) =
    if is_name name && list_all is_name (members_of list)
    then Ok (GroupLine name (members_of list) mode)
    else Err Syntax

-- what follows `metacycbuff:` (docs/FORMATS.md, Configuration)
abbrev pub group_line : List (List ℕ) → Result CycbuffLine Fault
group_line [] = Err Syntax
group_line (name ∷ []) = Err Syntax
group_line (name ∷ list ∷ []) = group_moded name list (Some Interleave)
group_line (name ∷ list ∷ mode ∷ []) = group_moded name list (mode_of mode)
group_line (name ∷ list ∷ mode ∷ other ∷ more) = Err Syntax

-- what follows an ignored key and its colon (docs/FORMATS.md, Configuration)
abbrev pub ignored_line : List (List ℕ) → Result CycbuffLine Fault
ignored_line [] = Err Syntax
ignored_line (any ∷ more) = Ok Skipped

-- what the parts of a line between colons say (docs/FORMATS.md, Configuration)
abbrev pub cycbuff_parts : List (List ℕ) → Result CycbuffLine Fault
cycbuff_parts [] = Err UnknownKey
cycbuff_parts (word ∷ after) =
    if bytes_eq word (codes "cycbuff") then buffer_line after
    else if bytes_eq word (codes "metacycbuff") then group_line after
    else if bytes_eq word (codes "cycbuffupdate") then ignored_line after
    else if bytes_eq word (codes "refreshinterval") then ignored_line after
    else Err UnknownKey

-- what a line without white space at its ends says (docs/FORMATS.md, Configuration)
abbrev pub cycbuff_trimmed : List ℕ → Result CycbuffLine Fault
cycbuff_trimmed line = if is_skipped line then Ok Skipped else cycbuff_parts (parts (byte ":") line)

-- what a line of cycbuff.conf says, or its fault alone (docs/FORMATS.md, Configuration)
abbrev pub cycbuff_line : List ℕ → Result CycbuffLine Fault
cycbuff_line line = cycbuff_trimmed (without_outer_white line)

-- a buffer that a line says (docs/FORMATS.md, Configuration)
abbrev pub buffer_of : Result CycbuffLine Fault → Option BufferConf
buffer_of (Err fault) = None
buffer_of (Ok Skipped) = None
buffer_of (Ok (BufferLine name file blocks)) =
    Some (record { name = name; file = file; blocks = blocks })
buffer_of (Ok (GroupLine name members mode)) = None

-- the buffers that lines say, in their order (docs/FORMATS.md, Configuration)
abbrev pub buffers_of : List (Result CycbuffLine Fault) → List BufferConf
buffers_of said = filter_map buffer_of said

-- the name of a group that a line says (docs/FORMATS.md, Configuration)
abbrev pub group_name_of : Result CycbuffLine Fault → Option (List ℕ)
group_name_of (Err fault) = None
group_name_of (Ok Skipped) = None
group_name_of (Ok (BufferLine name file blocks)) = None
group_name_of (Ok (GroupLine name members mode)) = Some name

-- the names of the groups that lines say (docs/FORMATS.md, Configuration)
abbrev pub group_names : List (Result CycbuffLine Fault) → List (List ℕ)
group_names said = filter_map group_name_of said

-- one name more after these: at most 256 names, and none twice (docs/FORMATS.md, Configuration)
abbrev pub name_fault : (names : List (List ℕ)) → (name : List ℕ) → Option Fault
name_fault names name =
    if nat_le 256 (length names) then Some Number
    else if list_any (bytes_eq name) names then Some Duplicate
    else None

-- what is wrong with a line behind these buffers and names of groups, looked for line by line
-- (docs/FORMATS.md, Configuration)
abbrev pub line_fault : List BufferConf → (names : List (List ℕ)) → Result CycbuffLine Fault
    → Option Fault
line_fault buffers names (Err fault) = Some fault
line_fault buffers names (Ok Skipped) = None
line_fault buffers names (Ok (BufferLine name file blocks)) =
    name_fault (map (λ buffer. buffer.name) buffers) name
line_fault buffers names (Ok (GroupLine name members mode)) = name_fault names name

-- the same behind the lines before it (docs/FORMATS.md, Configuration)
abbrev pub early_fault : (before : List (Result CycbuffLine Fault)) → Result CycbuffLine Fault
    → Option Fault
early_fault before line = line_fault (buffers_of before) (group_names before) line

-- the number of the buffer of a name among these: how many stand before the first of that name
-- (docs/FORMATS.md, Configuration)
abbrev pub number_of : List BufferConf → (name : List ℕ) → ℕ
number_of buffers name = position_or_len (λ buffer. bytes_eq name buffer.name) buffers

-- a buffer has this name (docs/FORMATS.md, Configuration)
abbrev pub is_known : List BufferConf → (name : List ℕ) → Bool
is_known buffers name = nat_lt (number_of buffers name) (length buffers)

-- the number of the buffer of a name, where there is one
abbrev pub place_of : List BufferConf → (name : List ℕ) → Option ℕ
place_of buffers name = if is_known buffers name then Some (number_of buffers name) else None

-- the numbers of the buffers of these names, where there is one of each
abbrev pub known_numbers : List BufferConf → (names : List (List ℕ)) → Option (List ℕ)
known_numbers buffers names =
    if list_all (is_known buffers) names then Some (map (number_of buffers) names) else None

-- a group of buffers: its name, the numbers of its buffers in the order of its list, and its mode
-- (docs/FORMATS.md, Configuration)
pub record Group : Type 0 where
  pub name : List ℕ
  pub buffers : List ℕ
  pub mode : Mode

-- a group that a line says, over these buffers (docs/FORMATS.md, Configuration)
abbrev pub group_of : List BufferConf → Result CycbuffLine Fault → Option Group
group_of buffers (Err fault) = None
group_of buffers (Ok Skipped) = None
group_of buffers (Ok (BufferLine name file blocks)) = None
group_of buffers (Ok (GroupLine name members mode)) =
    Some (record { name = name; buffers = map (number_of buffers) members; mode = mode })

-- the groups that lines say, in their order (docs/FORMATS.md, Configuration)
abbrev pub groups_of : List BufferConf → List (Result CycbuffLine Fault) → List Group
groups_of buffers said = filter_map (group_of buffers) said

-- the buffer of a number is listed in one of the groups (docs/FORMATS.md, Configuration)
abbrev pub is_listed : List Group → (number : ℕ) → Bool
is_listed groups number =
    list_any (λ group. list_any (λ other. other == number) group.buffers) groups

-- one of the buffers is listed in one of the groups, or twice (docs/FORMATS.md, Configuration)
abbrev pub is_shared : List Group → (before numbers : List ℕ) → Bool
is_shared groups before [] = false
is_shared groups before (number ∷ more) =
    is_listed groups number || list_any (λ other. other == number) before
    || is_shared groups (before ++ number ∷ []) more

-- what is wrong with the list of a group behind these groups: it is empty, a name in it is of no
-- buffer, a buffer is listed already (docs/FORMATS.md, Configuration)
abbrev pub list_fault : List BufferConf → List Group → (members : List (List ℕ)) → Option Fault
list_fault buffers groups [] = Some NoBuffers
list_fault buffers groups (first ∷ more) =
    if not (list_all (is_known buffers) (first ∷ more)) then Some UnknownName
    else if is_shared groups [] (map (number_of buffers) (first ∷ more)) then Some Shared
    else None

-- what is wrong with a line behind these groups, looked for after the last line
-- (docs/FORMATS.md, Configuration)
abbrev pub listed_fault : List BufferConf → List Group → Result CycbuffLine Fault → Option Fault
listed_fault buffers groups (Err fault) = None
listed_fault buffers groups (Ok Skipped) = None
listed_fault buffers groups (Ok (BufferLine name file blocks)) = None
listed_fault buffers groups (Ok (GroupLine name members mode)) = list_fault buffers groups members

-- the same behind the lines before it (docs/FORMATS.md, Configuration)
abbrev pub late_fault : List BufferConf → (before : List (Result CycbuffLine Fault))
    → Result CycbuffLine Fault → Option Fault
late_fault buffers before line = listed_fault buffers (groups_of buffers before) line

-- a file without any group (docs/FORMATS.md, Configuration)
abbrev pub no_group_fault : (names : List (List ℕ)) → Option Fault
no_group_fault [] = Some NoBuffers
no_group_fault (name ∷ more) = None

-- what cycbuff.conf says: the buffers and the groups, in their order (docs/FORMATS.md,
-- Configuration)
pub record CycbuffSettings : Type 0 where
  pub buffers : List BufferConf
  pub groups : List Group

-- what lines say together, each read alone: the first fault of a line, else that of the whole file,
-- else the first that is looked for after the last line, else the settings (docs/FORMATS.md,
-- Configuration)
abbrev pub cycbuff_said : List (Result CycbuffLine Fault) → Result CycbuffSettings LineFault
cycbuff_said said =
    unless_fault (first_fault early_fault [] said)
    (unless_fault (whole_fault (no_group_fault (group_names said)))
    (unless_fault (first_fault (late_fault (buffers_of said)) [] said)
    (Ok (record { buffers = buffers_of said; groups = groups_of (buffers_of said) said }))))

-- the buffers that lines say, where no fault comes before those that are looked for after the last
-- line
abbrev pub buffers_said : List (Result CycbuffLine Fault) → Result (List BufferConf) LineFault
buffers_said said =
    unless_fault (first_fault early_fault [] said)
    (unless_fault (whole_fault (no_group_fault (group_names said))) (Ok (buffers_of said)))

-- the groups that lines say over these buffers, or the first fault that is looked for after the
-- last line
abbrev pub groups_said : List BufferConf → List (Result CycbuffLine Fault)
    → Result (List Group) LineFault
groups_said buffers said =
    unless_fault (first_fault (late_fault buffers) [] said) (Ok (groups_of buffers said))

-- what the lines of cycbuff.conf say (docs/FORMATS.md, Configuration)
abbrev pub cycbuff_of : (lines : List (List ℕ)) → Result CycbuffSettings LineFault
cycbuff_of lines = cycbuff_said (map cycbuff_line lines)
