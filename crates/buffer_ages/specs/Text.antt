-- The text of marks, as it is read and as it is written (docs/FORMATS.md, Ages file).
use Rattle.std.specs.Prelude.{ℕ, ◌&&◌, nat_le, nat_lt, Bool, true, List, [], ◌∷◌}
use Rattle.std.specs.Prelude.{Option, None, Some, if◌then◌else◌, bytes_eq, decimal, filter_map}
use Rattle.std.specs.Prelude.{flat_map, map}
use Rattle.std.specs.Option.{option_and_then}
use Rattle.line_words.specs.Numbers.{number_within}
use Rattle.line_words.specs.Words.{words}
use Rattle.line_words.specs.declared.words.Between.TheVariants.{Spaces}
use Rattle.relay_conf.specs.Lines.{lines_of}
use Rattle.relay_names.specs.Text.{line_octets}
use Rattle.buffer_ages.specs.Marks.{most_marks, newest}
use Rattle.buffer_ages.specs.declared.marks.Mark.{Mark}

-- the marks of a buffer, with its name
pub record BufferAges : Type 0 where
  pub name : List ℕ
  pub marks : List Mark

-- THE TEXT AS IT IS READ

-- the number that a word is: decimal digits, below 2^64
abbrev pub number_of : (word : List ℕ) → Option ℕ
number_of word = number_within 0 18446744073709551615 word

-- the mark of two numbers, where both are there
abbrev pub both_there : (front moment : Option ℕ) → Option Mark
both_there None moment = None
both_there (Some front) None = None
both_there (Some front) (Some moment) = Some (record { front = front; moment = moment })

-- the mark of two words: a front, and a moment
abbrev pub mark_by : (front moment : List ℕ) → Option Mark
mark_by front moment = both_there (number_of front) (number_of moment)

-- the mark that words are: two of them
abbrev pub mark_in : (words : List (List ℕ)) → Option Mark
mark_in [] = None
mark_in (front ∷ []) = None
mark_in (front ∷ moment ∷ []) = mark_by front moment
mark_in (front ∷ moment ∷ third ∷ more) = None

-- the mark that words say of the buffer of this name, which is the first
abbrev pub mark_behind : (name : List ℕ) → (words : List (List ℕ)) → Option Mark
mark_behind name [] = None
mark_behind name (first ∷ more) = if bytes_eq first name then mark_in more else None

-- the mark that a line says of the buffer of this name: `NAME FRONT MOMENT`
abbrev pub mark_said : (name line : List ℕ) → Option Mark
mark_said name line = mark_behind name (words Spaces line)

-- A mark may follow another, where there is one: its front is farther, and its moment no earlier.
abbrev pub may_follow : Option Mark → Mark → Bool
may_follow None mark = true
may_follow (Some last) mark = nat_lt last.front mark.front && nat_le last.moment mark.moment

-- a mark where it may follow another
abbrev pub where_it_may : Option Mark → Mark → Option Mark
where_it_may last mark = if may_follow last mark then Some mark else None

-- the mark that a line says of the buffer of this name, where it may follow another
abbrev pub next_mark : (name : List ℕ) → Option Mark → (line : List ℕ) → Option Mark
next_mark name last line = option_and_then (where_it_may last) (mark_said name line)

-- the next mark, where there is one, else the last one
abbrev pub newer : (next last : Option Mark) → Option Mark
newer None last = last
newer (Some mark) last = Some mark

-- of marks, those that may each follow the one that is kept before it
abbrev pub kept_after : Option Mark → List Mark → List Mark
kept_after last [] = []
kept_after last (mark ∷ marks) =
    if may_follow last mark then mark ∷ kept_after (Some mark) marks else kept_after last marks

-- the marks that lines say of the buffer of this name
abbrev pub marks_read : (lines : List (List ℕ)) → (name : List ℕ) → List Mark
marks_read lines name = kept_after None (filter_map (mark_said name) lines)

-- the marks that a buffer of this name has by lines: the newest of them
abbrev pub ages_in : (lines : List (List ℕ)) → (name : List ℕ) → BufferAges
ages_in lines name =
    record { name = name; marks = newest most_marks (marks_read lines name) }

-- what a text says of the buffers of these names
abbrev pub read_ages : (names : List (List ℕ)) → (text : List ℕ) → List BufferAges
read_ages names text = map (ages_in (lines_of text)) names

-- THE TEXT AS IT IS WRITTEN

-- the words of the line of a mark of the buffer of this name
abbrev pub mark_words : (name : List ℕ) → Mark → List (List ℕ)
mark_words name mark = name ∷ decimal mark.front ∷ decimal mark.moment ∷ []

-- that line
abbrev pub mark_octets : (name : List ℕ) → Mark → List ℕ
mark_octets name mark = line_octets (mark_words name mark)

-- the lines of the marks of a buffer
abbrev pub buffer_octets : BufferAges → List ℕ
buffer_octets buffer = flat_map (mark_octets buffer.name) buffer.marks

-- the lines of the marks of all buffers
abbrev pub ages_octets : List BufferAges → List ℕ
ages_octets ages = flat_map buffer_octets ages
