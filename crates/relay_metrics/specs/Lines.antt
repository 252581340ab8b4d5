-- What the lines of a report say (docs/FORMATS.md, Report; cnrelay(1), Asking).
use Rattle.std.specs.Prelude.{ℕ, ◌&&◌, Bool, List, [], ◌∷◌, ◌++◌, bytes_eq, drop}
use Rattle.std.specs.Prelude.{length, map, nat_le, option_and_then, option_map, take, unwrap_or}
use Rattle.std.specs.Prelude.{Option, None, Some}
use Rattle.std.specs.Prelude.{false, true, if◌then◌else◌}
use Rattle.std.specs.Borrow.{Bor}
use Rattle.line_words.specs.Numbers.{is_numeral}
use Rattle.line_words.specs.Parts.{parts}
use Rattle.line_words.specs.Words.{words}
use Rattle.line_words.specs.declared.words.Between.TheVariants.{Spaces}
use Rattle.news_terms.specs.Article.{is_empty}
use Rattle.news_terms.specs.Lines.{line_feed}
use Rattle.relay_metrics.specs.Forms.{Form, report_forms}
use Rattle.relay_metrics.specs.declared.lines.Line as code
use Rattle.relay_metrics.specs.declared.lines.Subject.{Subject}
use Rattle.relay_metrics.specs.declared.lines.Subject.TheVariants.{Unread}

-- What a line of a report says: what it is about, the name that it has, none or one, and its
-- numbers in their order, as they are written.
pub record Line : Type 0 where
  pub subject : Subject
  pub name : List ℕ
  pub numbers : List (List ℕ)

-- a line of the code as the definitions have it
abbrev pub line_view : code.Line → Line
line_view line =
    record {
      subject = line.subject;
      name = line.name.now;
      numbers = map (λ number. number.now) line.numbers.items;
    }

-- what a line says that isn't known: nothing
abbrev pub unread_line : Line
unread_line = record { subject = Unread; name = []; numbers = [] }

-- what stands in a word behind this key, where the key stands before it
abbrev pub behind_key : (key word : List ℕ) → Option (List ℕ)
behind_key key word =
    if nat_le (length key) (length word) && bytes_eq (take (length key) word) key
    then Some (drop (length key) word)
    else None

-- the number that the octets are: decimal digits, one or more
abbrev pub number_in : List ℕ → Option (List ℕ)
number_in octets = if is_numeral octets then Some octets else None

-- the number that a word is behind this key
abbrev pub number_behind : (key word : List ℕ) → Option (List ℕ)
number_behind key word = option_and_then number_in (behind_key key word)

-- a number in front of others, where it and they are there
abbrev pub number_and : Option (List ℕ) → Option (List (List ℕ)) → Option (List (List ℕ))
number_and None rest = None
number_and (Some number) rest = option_map (λ more. number ∷ more) rest

-- the numbers that words are, each behind its key: there are as many words as keys
abbrev pub numbers_by : (keys words : List (List ℕ)) → Option (List (List ℕ))
numbers_by [] [] = Some []
numbers_by [] (word ∷ words) = None
numbers_by (key ∷ keys) [] = None
numbers_by (key ∷ keys) (word ∷ words) =
    number_and (number_behind key word) (numbers_by keys words)

-- a line of this form with this name, whose other words are these
abbrev pub with_numbers : Form → (name : List ℕ) → (words : List (List ℕ)) → Option Line
with_numbers form name words =
    option_map
    (λ numbers. record { subject = form.subject; name = name; numbers = numbers })
    (numbers_by form.keys words)

-- a line of this form, the first of whose words behind the form's is its name behind its key
abbrev pub behind_name : Form → (words : List (List ℕ)) → Option Line
behind_name form [] = None
behind_name form (word ∷ words) =
    option_and_then (λ name. with_numbers form name words) (behind_key form.name_key word)

-- a line of this form, by its words behind the form's
abbrev pub behind_word : Form → (words : List (List ℕ)) → Option Line
behind_word form words =
    if form.is_named then behind_name form words else with_numbers form [] words

-- a line of this form, by its words
abbrev pub line_by : Form → (words : List (List ℕ)) → Option Line
line_by form [] = None
line_by form (word ∷ words) = if bytes_eq word form.word then behind_word form words else None

-- what a line of these words says by the first of these forms that it has
abbrev pub said_by : List Form → (words : List (List ℕ)) → Line
said_by [] words = unread_line
said_by (form ∷ forms) words = unwrap_or (line_by form words) (said_by forms words)

-- what a line of a report says
abbrev pub said_line : List ℕ → Line
said_line line = said_by report_forms (words Spaces line)

-- what a part of a report says that LF ends, or the last one: that is no line, and where it has
-- an octet it isn't known
abbrev pub said_of : (is_ended : Bool) → (part : List ℕ) → List Line
said_of is_ended part =
    if is_ended then said_line part ∷ [] else if is_empty part then [] else unread_line ∷ []

-- what the parts of a report between its LFs say
abbrev pub lines_in : List (List ℕ) → List Line
lines_in [] = []
lines_in (last ∷ []) = said_of false last
lines_in (part ∷ next ∷ more) = said_of true part ++ lines_in (next ∷ more)

-- what the lines of a report say, each ended by LF
abbrev pub report_lines : (report : List ℕ) → List Line
report_lines report = lines_in (parts line_feed report)

-- what the lines say of what is left of a report
abbrev pub lines_left : Option (Bor (List ℕ)) → List Line
lines_left None = []
lines_left (Some rest) = report_lines rest.now
