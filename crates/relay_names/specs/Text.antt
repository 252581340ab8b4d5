-- The text of names, as it is read and as it is written (docs/FORMATS.md, Names file).
use Rattle.std.specs.Prelude.{ℕ, ◌<◌, ◌^◌, ◌==◌, ◌&&◌, not, Bool, List, [], ◌∷◌, ◌++◌}
use Rattle.std.specs.Prelude.{Option, None, Some, IfSome, IsTrue, if◌then◌else◌, bytes_eq, codes}
use Rattle.std.specs.Prelude.{decimal, drop, false, true, filter_map, flat_map, map, option_map}
use Rattle.std.specs.Prelude.{take}
use Rattle.std.specs.List.{list_all, list_any, position_or_len}
use Rattle.std.specs.Option.{option_and_then}
use Rattle.news_terms.specs.Article.{is_empty}
use Rattle.news_terms.specs.Lines.{is_of_line_end, line_feed, space, words_between}
use Rattle.line_words.specs.Numbers.{number_within}
use Rattle.line_words.specs.Parts.{one_of}
use Rattle.line_words.specs.Words.{is_space}
use Rattle.relay_conf.specs.Lines.{lines_of}
use Rattle.relay_names.specs.Names.{GroupNames, Names, Told}

-- THE TEXT AS IT IS READ

-- what a line of the text says (docs/FORMATS.md, Names file)
pub data NamesLine : Type 0 where
  -- `at N`: what follows is of the history of this stop
  At : (stop : ℕ) → NamesLine
  -- `after N`: what follows is of the history of any later stop
  After : (stop : ℕ) → NamesLine
  -- `buffer NAME`
  BufferLine : (name : List ℕ) → NamesLine
  -- `group NAME BUFFER ..`
  GroupLine : (name : List ℕ) (buffers : List (List ℕ)) → NamesLine
  -- `feed NAME`
  FeedLine : (name : List ℕ) → NamesLine

-- the number of a stop that a word is: decimal digits, below 2^64 (docs/FORMATS.md, Names file)
abbrev pub stop_of : List ℕ → Option ℕ
stop_of word = number_within 0 18446744073709551615 word

-- the number of a stop that words are: one word that is one
abbrev pub stop_said : List (List ℕ) → Option ℕ
stop_said words = option_and_then stop_of (one_of words)

-- what follows `group`: its name, then the names of its buffers
abbrev pub group_said : List (List ℕ) → Option NamesLine
group_said [] = None
group_said (name ∷ buffers) = Some (GroupLine name buffers)

-- what the words of a line say, None where it is no line of names (docs/FORMATS.md, Names file)
abbrev pub words_said : List (List ℕ) → Option NamesLine
words_said [] = None
words_said (kind ∷ words) =
    if bytes_eq kind (codes "at") then option_map At (stop_said words)
    else if bytes_eq kind (codes "after") then option_map After (stop_said words)
    else if bytes_eq kind (codes "buffer") then option_map BufferLine (one_of words)
    else if bytes_eq kind (codes "group") then group_said words
    else if bytes_eq kind (codes "feed") then option_map FeedLine (one_of words)
    else None

-- what a line says: its words stand between spaces (docs/FORMATS.md, Names file)
abbrev pub line_said : List ℕ → Option NamesLine
line_said line = words_said (words_between is_space line)

-- one more in front, where each is there
abbrev pub both_there : {X : Type 0} → Option X → Option (List X) → Option (List X)
both_there None more = None
both_there (Some first) None = None
both_there (Some first) (Some more) = Some (first ∷ more)

-- what lines say, None where one of them is no line of names
abbrev pub lines_said : List (List ℕ) → Option (List NamesLine)
lines_said [] = Some []
lines_said (line ∷ more) = both_there (line_said line) (lines_said more)

-- the lines before the last, which is what no LF ends: None where there is something of it
abbrev pub ended_lines : List (List ℕ) → Option (List (List ℕ))
ended_lines [] = None
ended_lines (last ∷ []) = if is_empty last then Some [] else None
ended_lines (line ∷ next ∷ more) = both_there (Some line) (ended_lines (next ∷ more))

-- what lines say whose last is what no LF ends, None where they are no lines of names
abbrev pub all_said : List (List ℕ) → Option (List NamesLine)
all_said lines = option_and_then lines_said (ended_lines lines)

-- a line that begins a part
abbrev pub is_mark : NamesLine → Bool
is_mark (At stop) = true
is_mark (After stop) = true
is_mark (BufferLine name) = false
is_mark (GroupLine name buffers) = false
is_mark (FeedLine name) = false

-- the name of a buffer that a line says
abbrev pub buffer_of : NamesLine → Option (List ℕ)
buffer_of (At stop) = None
buffer_of (After stop) = None
buffer_of (BufferLine name) = Some name
buffer_of (GroupLine name buffers) = None
buffer_of (FeedLine name) = None

-- the names of a group that a line says
abbrev pub group_of : NamesLine → Option GroupNames
group_of (At stop) = None
group_of (After stop) = None
group_of (BufferLine name) = None
group_of (GroupLine name buffers) = Some (record { name = name; buffers = buffers })
group_of (FeedLine name) = None

-- the name of a feed's peer that a line says
abbrev pub feed_of : NamesLine → Option (List ℕ)
feed_of (At stop) = None
feed_of (After stop) = None
feed_of (BufferLine name) = None
feed_of (GroupLine name buffers) = None
feed_of (FeedLine name) = Some name

-- the names that lines say, each kind in its order, the kinds in any order between each other
abbrev pub names_said : List NamesLine → Names
names_said lines =
    record {
      buffers = filter_map buffer_of lines;
      groups = filter_map group_of lines;
      feeds = filter_map feed_of lines;
    }

-- the names of a part that goes on to the end: no line of it begins another part
abbrev pub last_part : List NamesLine → Option Names
last_part lines = if list_any is_mark lines then None else Some (names_said lines)

-- the lines of a part, before the next one begins
abbrev pub front_part : List NamesLine → List NamesLine
front_part lines = take (position_or_len is_mark lines) lines

-- the lines from the beginning of the next part on
abbrev pub next_part : List NamesLine → List NamesLine
next_part lines = drop (position_or_len is_mark lines) lines

-- what is told of a stop whose own names are these, or aren't known, by the lines of its later
-- names
abbrev pub later_told : (stop : ℕ) → (last : Option Names) → List NamesLine → Option Told
later_told stop last lines =
    option_map (λ later. record { stop = stop; last = last; later = later }) (last_part lines)

-- the same where `after N` has to come first, of the same stop
abbrev pub told_after : (stop : ℕ) → (last : Option Names) → List NamesLine → Option Told
told_after stop last [] = None
told_after stop last (At other ∷ lines) = None
told_after stop last (After other ∷ lines) =
    if other == stop then later_told stop last lines else None
told_after stop last (BufferLine name ∷ lines) = None
told_after stop last (GroupLine name buffers ∷ lines) = None
told_after stop last (FeedLine name ∷ lines) = None

-- the same where the stop's own names come first
abbrev pub told_at : (stop : ℕ) → List NamesLine → Option Told
told_at stop lines = told_after stop (Some (names_said (front_part lines))) (next_part lines)

-- what lines tell: `at N` with names and then `after N` with names, or `after N` with names alone
-- (docs/FORMATS.md, Names file)
abbrev pub told_said : List NamesLine → Option Told
told_said [] = None
told_said (At stop ∷ lines) = told_at stop lines
told_said (After stop ∷ lines) = later_told stop None lines
told_said (BufferLine name ∷ lines) = None
told_said (GroupLine name buffers ∷ lines) = None
told_said (FeedLine name ∷ lines) = None

-- what a text of names tells, None where it is no such text (docs/FORMATS.md, Names file)
abbrev pub told_of : (text : List ℕ) → Option Told
told_of text = option_and_then told_said (all_said (lines_of text))

-- THE TEXT AS IT IS WRITTEN

-- a line as it is written: its words with a space between them, and LF
abbrev pub line_octets : (words : List (List ℕ)) → List ℕ
line_octets [] = line_feed ∷ []
line_octets (first ∷ more) =
    first ++ flat_map (λ word. space ∷ word) more ++ line_feed ∷ []

-- the words of the line of a group
abbrev pub group_words : GroupNames → List (List ℕ)
group_words group = codes "group" ∷ group.name ∷ group.buffers

-- the words of the lines of names: buffers, then groups, then feeds
abbrev pub names_words : Names → List (List (List ℕ))
names_words names =
    map (λ name. codes "buffer" ∷ name ∷ []) names.buffers
    ++ map group_words names.groups
    ++ map (λ name. codes "feed" ∷ name ∷ []) names.feeds

-- the words of the lines of a part: what it is of, with the number of the stop, and the names
abbrev pub part_words : (kind : List ℕ) → (stop : ℕ) → Names → List (List (List ℕ))
part_words kind stop names = (kind ∷ decimal stop ∷ []) ∷ names_words names

-- the words of the lines of the first part, where there is one
abbrev pub last_words : (stop : ℕ) → Option Names → List (List (List ℕ))
last_words stop None = []
last_words stop (Some names) = part_words (codes "at") stop names

-- the words of the lines of what is told
abbrev pub told_words : Told → List (List (List ℕ))
told_words told =
    last_words told.stop told.last ++ part_words (codes "after") told.stop told.later

-- what is told as it is written (docs/FORMATS.md, Names file)
abbrev pub told_octets : Told → List ℕ
told_octets told = flat_map line_octets (told_words told)

-- an octet that may stand in a word: no SP, CR or LF
abbrev pub is_of_word : ℕ → Bool
is_of_word c = not (c == space) && not (is_of_line_end c)

-- a word that may be written: one octet or more, each of which may stand in a word
abbrev pub is_word : List ℕ → Bool
is_word word = not (is_empty word) && list_all is_of_word word

-- each name is a word
abbrev pub are_words : Names → Bool
are_words names =
    list_all is_word names.buffers
    && list_all (λ group. is_word group.name && list_all is_word group.buffers) names.groups
    && list_all is_word names.feeds

-- what is told can be written so that it is read again
pub record IsWritable (told : Told) : Type 0 where
  pub stop : told.stop < 2 ^ 64
  pub last : IfSome told.last (λ names. IsTrue (are_words names))
  pub later : IsTrue (are_words told.later)
