-- storage.conf: what its lines say, each alone.
use Rattle.std.specs.Prelude.{◌≡◌, ℕ, ◌+◌, ◌^◌, ◌-◌, ◌==◌, ◌&&◌, ◌||◌, nat_eq, nat_lt, Bool, true}
use Rattle.std.specs.Prelude.{false, List, [], ◌∷◌, length, take, drop, codes, bytes_eq, Option}
use Rattle.std.specs.Prelude.{None, Some, Result, Ok, Err, if◌then◌else◌}
use Rattle.std.specs.List.{list_any, position_or_len, starts_with}
use Rattle.std.specs.Str.{byte, str_eq_ignore_ascii_case}
use Rattle.news_terms.specs.Article.{is_empty, without_outer_white}
use Rattle.news_terms.specs.Pattern.{Marked, ExpressionFault, IsExpressionText, HasLeftmostFault}
use Rattle.relay_conf.specs.declared.faults.Fault.{Fault}
use Rattle.relay_conf.specs.declared.faults.Fault.TheVariants.{Syntax, UnknownKey, Number, Pattern}
use Rattle.relay_conf.specs.declared.storage_lines.Place.{Place}
use Rattle.relay_conf.specs.declared.storage_lines.Place.TheVariants.{Outside, InEntry, InOther}
use Rattle.relay_conf.specs.declared.storage_lines.Sizes.{Sizes}
use Rattle.line_words.specs.Comments.{is_skipped}
use Rattle.relay_conf.specs.Words.{words, is_name}
use Rattle.line_words.specs.Parts.{parts, three_of}
use Rattle.line_words.specs.Numbers.{number_within}

-- what a line of storage.conf says, faults apart; `newsgroups` has its expression as E: first its
-- text, then what that is (docs/FORMATS.md, Configuration)
pub data StorageLine (E : Type 0) : Type 0 where
  -- a comment, an empty line, or a line of another method's entry
  Skipped : StorageLine E
  -- `method NAME {`
  Opens : (method : List ℕ) → StorageLine E
  -- `}` of an entry of cnfs
  Closes : StorageLine E
  -- `}` of an entry of another method
  Ends : StorageLine E
  -- `class: N`
  ClassLine : (class : ℕ) → StorageLine E
  -- `newsgroups: EXPR`
  NewsgroupsLine : (expression : E) → StorageLine E
  -- `options: NAME`
  OptionsLine : (group : List ℕ) → StorageLine E
  -- `size: MIN` or `size: MIN,MAX`
  SizeLine : (sizes : Sizes) → StorageLine E
  -- `exactmatch: true` and the like
  ExactLine : (exact : Bool) → StorageLine E

-- a line alone, its expression as text
abbrev pub RawLine : Type 0
RawLine = Result (StorageLine (List ℕ)) Fault

-- a line with its expression read
abbrev pub SaidLine : Type 0
SaidLine = Result (StorageLine (List Marked)) Fault

-- A LINE OUTSIDE AN ENTRY

-- the words `method NAME {`, or Syntax (docs/FORMATS.md, Configuration)
abbrev pub method_line : (three : Option (List ℕ × List ℕ × List ℕ)) → RawLine
method_line None = Err Syntax
method_line (Some three) =
    if bytes_eq three.0 (codes "method") && is_name three.1 && bytes_eq three.2 (codes "{")
    then Ok (Opens three.1)
    else Err Syntax

-- what a line outside an entry says, without white space at its ends (docs/FORMATS.md,
-- Configuration)
abbrev pub outside_line : (trimmed : List ℕ) → RawLine
outside_line line =
    if is_skipped line then Ok Skipped else method_line (three_of (words line))

-- A LINE INSIDE AN ENTRY OF CNFS

-- how many octets stand before the first colon (docs/FORMATS.md, Configuration)
abbrev pub colon_at : List ℕ → ℕ
colon_at line = position_or_len (λ c. c == byte ":") line

-- the octets before the first colon and those behind it, where there is one (docs/FORMATS.md,
-- Configuration)
abbrev pub key_and_value : List ℕ → Option (List ℕ × List ℕ)
key_and_value line =
    if nat_lt (colon_at line) (length line)
    then Some (take (colon_at line) line, drop (colon_at line + 1) line)
    else None

-- a key of an entry (docs/FORMATS.md, Configuration)
abbrev pub is_key : List ℕ → Bool
is_key word =
    bytes_eq word (codes "class") || bytes_eq word (codes "newsgroups")
    || bytes_eq word (codes "options") || bytes_eq word (codes "size")
    || bytes_eq word (codes "exactmatch")

-- a word that the file knows at the front of a line (docs/FORMATS.md, Configuration)
abbrev pub is_known_word : List ℕ → Bool
is_known_word word =
    is_key word || bytes_eq word (codes "method") || bytes_eq word (codes "}")

-- the fault of a line without colon, by its words: Syntax where the file knows the first
-- (docs/FORMATS.md, Configuration)
abbrev pub bare_fault : List (List ℕ) → Fault
bare_fault [] = UnknownKey
bare_fault (word ∷ more) = if is_known_word word then Syntax else UnknownKey

-- a class, or Number where there is none (docs/FORMATS.md, Configuration)
abbrev pub class_numbered : Option ℕ → RawLine
class_numbered None = Err Number
class_numbered (Some class) = Ok (ClassLine class)

-- the value of `class` (docs/FORMATS.md, Configuration)
abbrev pub class_line : (value : List ℕ) → RawLine
class_line value = if is_empty value then Err Syntax else class_numbered (number_within 0 255 value)

-- the value of `options` (docs/FORMATS.md, Configuration)
abbrev pub options_line : (value : List ℕ) → RawLine
options_line value = if is_name value then Ok (OptionsLine value) else Err Syntax

-- a size in octets: a number below 2^64 (docs/FORMATS.md, Configuration)
abbrev pub size_in : List ℕ → Option ℕ
size_in word = number_within 0 (2 ^ 64 - 1) word

-- an upper limit of sizes, where 0 is none (docs/FORMATS.md, Configuration)
abbrev pub limit_of : (size : ℕ) → Option ℕ
limit_of size = if size == 0 then None else Some size

-- the sizes from a lower to an upper limit, or Number where one is no number (docs/FORMATS.md,
-- Configuration)
abbrev pub sizes_between : (smallest largest : Option ℕ) → Result Sizes Fault
sizes_between None largest = Err Number
sizes_between (Some smallest) None = Err Number
sizes_between (Some smallest) (Some largest) =
    Ok (record { smallest = smallest; largest = limit_of largest })

-- the upper limit that the word is: no word is 0 (docs/FORMATS.md, Configuration)
abbrev pub largest_in : List ℕ → Option ℕ
largest_in word = if is_empty word then Some 0 else size_in word

-- the sizes that the parts between commas say (docs/FORMATS.md, Configuration)
abbrev pub sizes_of : List (List ℕ) → Result Sizes Fault
sizes_of [] = Err Syntax
sizes_of (smallest ∷ []) = sizes_between (size_in smallest) (Some 0)
sizes_of (smallest ∷ largest ∷ []) = sizes_between (size_in smallest) (largest_in largest)
sizes_of (smallest ∷ largest ∷ other ∷ more) = Err Syntax

-- a line of sizes, or their fault
abbrev pub size_said : Result Sizes Fault → RawLine
size_said (Err fault) = Err fault
size_said (Ok sizes) = Ok (SizeLine sizes)

-- the value of `size` (docs/FORMATS.md, Configuration)
abbrev pub size_line : (value : List ℕ) → RawLine
size_line value =
    if is_empty value then Err Syntax else size_said (sizes_of (parts (byte ",") value))

-- the word is one of these, without regard to ASCII case (docs/FORMATS.md, Configuration)
abbrev pub is_one_of : List (List ℕ) → (word : List ℕ) → Bool
is_one_of choices word = list_any (str_eq_ignore_ascii_case word) choices

-- the value of `exactmatch` (docs/FORMATS.md, Configuration)
abbrev pub exact_line : (value : List ℕ) → RawLine
exact_line value =
    if is_one_of (codes "true" ∷ codes "yes" ∷ codes "on" ∷ []) value then Ok (ExactLine true)
    else if is_one_of (codes "false" ∷ codes "no" ∷ codes "off" ∷ []) value
    then Ok (ExactLine false)
    else Err Syntax

-- what a key and its value say, the value without white space at its ends (docs/FORMATS.md,
-- Configuration)
abbrev pub setting_line : (key value : List ℕ) → RawLine
setting_line key value =
    if bytes_eq key (codes "class") then class_line value
    else if bytes_eq key (codes "newsgroups") then Ok (NewsgroupsLine value)
    else if bytes_eq key (codes "options") then options_line value
    else if bytes_eq key (codes "size") then size_line value
    else if bytes_eq key (codes "exactmatch") then exact_line value
    else Err UnknownKey

-- the same, where a value that begins with `"` is Syntax: quotes are not known (docs/FORMATS.md,
-- Configuration)
abbrev pub unquoted_line : (key value : List ℕ) → RawLine
unquoted_line key value =
    if is_key key && starts_with nat_eq value
    (codes "\"") then Err Syntax else setting_line key value

-- what a line says by its key and value, where it has a colon (docs/FORMATS.md, Configuration)
abbrev pub keyed_line : (line : List ℕ) → Option (List ℕ × List ℕ) → RawLine
keyed_line line None = Err (bare_fault (words line))
keyed_line line (Some two) = unquoted_line two.0 (without_outer_white two.1)

-- what a line inside an entry of cnfs says, without white space at its ends (docs/FORMATS.md,
-- Configuration)
abbrev pub inside_line : (trimmed : List ℕ) → RawLine
inside_line line =
    if is_skipped line then Ok Skipped
    else if bytes_eq line (codes "}") then Ok Closes
    else keyed_line line (key_and_value line)

-- A LINE INSIDE AN ENTRY OF ANOTHER METHOD

-- what such a line says, without white space at its ends: the line is that method's and isn't
-- read, but that `}` ends the entry (docs/FORMATS.md, Configuration)
abbrev pub other_line : {E : Type 0} → (trimmed : List ℕ) → StorageLine E
other_line line = if bytes_eq line (codes "}") then Ends else Skipped

-- A LINE OF THE FILE

-- what a line of storage.conf says where it stands, or its fault alone, its expression as text
-- (docs/FORMATS.md, Configuration)
abbrev pub storage_line : Place → (line : List ℕ) → RawLine
storage_line Outside line = outside_line (without_outer_white line)
storage_line InEntry line = inside_line (without_outer_white line)
storage_line InOther line = Ok (other_line (without_outer_white line))

-- the line says the expression that its text is, or Pattern where that has a fault
-- (docs/FORMATS.md, Configuration)
abbrev pub NewsgroupsSay : (text : List ℕ) → SaidLine → Type 0
NewsgroupsSay text (Err fault) =
    (fault ≡ Pattern) × ((found : ExpressionFault) × HasLeftmostFault text found)
NewsgroupsSay text (Ok line) =
    (expression : List Marked) × IsExpressionText text expression
    × (line ≡ NewsgroupsLine expression)

-- what a line says once its expression is read (docs/FORMATS.md, Configuration)
abbrev pub RawSays : RawLine → SaidLine → Type 0
RawSays (Err fault) said = said ≡ Err fault
RawSays (Ok Skipped) said = said ≡ Ok Skipped
RawSays (Ok (Opens method)) said = said ≡ Ok (Opens method)
RawSays (Ok Closes) said = said ≡ Ok Closes
RawSays (Ok Ends) said = said ≡ Ok Ends
RawSays (Ok (ClassLine class)) said = said ≡ Ok (ClassLine class)
RawSays (Ok (NewsgroupsLine text)) said = NewsgroupsSay text said
RawSays (Ok (OptionsLine group)) said = said ≡ Ok (OptionsLine group)
RawSays (Ok (SizeLine sizes)) said = said ≡ Ok (SizeLine sizes)
RawSays (Ok (ExactLine exact)) said = said ≡ Ok (ExactLine exact)
