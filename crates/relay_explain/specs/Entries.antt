-- What is told of the entries of storage.conf, in the order in which they are tried.
use Rattle.std.specs.Prelude.{ℕ, ◌+◌, ◌&&◌, ◌||◌, not, Bool, true, false, List, [], ◌∷◌, ◌++◌}
use Rattle.std.specs.Prelude.{codes}
use Rattle.std.specs.Prelude.{bytes_eq, decimal, drop, filter_map, find, flat_map, length, map}
use Rattle.std.specs.Prelude.{nat_le, nat_lt, slice_get, unwrap_or, Option, Some, None}
use Rattle.std.specs.Prelude.{if◌then◌else◌}
use Rattle.std.specs.List.{enumerate_from}
use Rattle.news_terms.specs.Article.{without_outer_white}
use Rattle.news_terms.specs.Pattern.{IsExpressionText}
use Rattle.relay_conf.specs.StorageLines.{key_and_value}
use Rattle.relay_conf.specs.declared.cycbuff.GroupConf.{GroupConf}
use Rattle.relay_conf.specs.declared.settings.Config.{Config}
use Rattle.relay_conf.specs.declared.settings.StorageEntry.{StorageEntry}
use Rattle.relay_explain.specs.Buffers.{largest_stored}
use Rattle.relay_explain.specs.Lines.{begins, odd_line, told_line, words_in}
use Rattle.relay_explain.specs.Patterns.{pattern_odds}

-- the file in which entries are said
abbrev pub storage : List ℕ
storage = codes "storage.conf"

-- the number from 1 of a line that begins an entry, of one with its number from 0
abbrev pub entry_number : ℕ × List ℕ → Option ℕ
entry_number one =
    if begins (codes "method") (words_in one.1) then Some (one.0 + 1) else None

-- the numbers from 1 of the lines that begin entries
abbrev pub entry_lines : (lines : List (List ℕ)) → List ℕ
entry_lines lines = filter_map entry_number (enumerate_from 0 lines)

-- the value of the key `newsgroups`, without the white space at its ends, where it is that key
abbrev pub newsgroups_value : (two : Option (List ℕ × List ℕ)) → Option (List ℕ)
newsgroups_value None = None
newsgroups_value (Some two) =
    if bytes_eq two.0 (codes "newsgroups") then Some (without_outer_white two.1) else None

-- the text of the expression that a line says, where it has the key `newsgroups`
abbrev pub newsgroups_on : (line : List ℕ) → Option (List ℕ)
newsgroups_on line = newsgroups_value (key_and_value (without_outer_white line))

-- the text of the expression that the first of these lines says that says one
abbrev pub newsgroups_in : (lines : List (List ℕ)) → List ℕ
newsgroups_in [] = []
newsgroups_in (line ∷ more) = unwrap_or (newsgroups_on line) (newsgroups_in more)

-- An entry as it is said: its number from 1, the line that begins it, the text of its expression,
-- and its settings.
pub record Said : Type 0 where
  pub number : ℕ
  pub line : ℕ
  pub newsgroups : List ℕ
  pub entry : StorageEntry

-- the entry of this number, as the lines say it
abbrev pub said_entry : (lines : List (List ℕ)) → ℕ × StorageEntry → Said
said_entry lines one =
    let line = unwrap_or (slice_get (entry_lines lines) one.0) 0 in
    record {
      number = one.0 + 1;
      line = line;
      newsgroups = newsgroups_in (drop line lines);
      entry = one.1;
    }

-- all entries, as the lines say them
abbrev pub said_entries : Config → (lines : List (List ℕ)) → List Said
said_entries config lines = map (said_entry lines) (enumerate_from 0 config.storage_entries.items)

-- the text of an entry's expression is that expression
abbrev pub IsSpelled : Said → Type 0
IsSpelled said = IsExpressionText said.newsgroups said.entry.newsgroups

-- a size within this limit is within the other one
abbrev pub is_limit_within : (limit other : Option ℕ) → Bool
is_limit_within limit None = true
is_limit_within None (Some other) = false
is_limit_within (Some limit) (Some other) = nat_le limit other

-- an entry takes each size that the other takes
abbrev pub covers_sizes : (entry other : StorageEntry) → Bool
covers_sizes entry other =
    nat_le entry.smallest other.smallest && is_limit_within other.largest entry.largest

-- an entry takes all newsgroups that the other takes: each newsgroup, or by the same expression and
-- no more strictly
abbrev pub covers_newsgroups : (said other : Said) → Bool
covers_newsgroups said other =
    bytes_eq said.newsgroups (codes "*")
    || (bytes_eq said.newsgroups other.newsgroups
    && (not said.entry.exactmatch || other.entry.exactmatch))

-- an entry is tried before the other and takes all that it takes
unfoldable pub shadows : (said other : Said) → Bool
shadows said other =
    nat_lt said.number other.number
    && (covers_sizes said.entry other.entry && covers_newsgroups said other)

-- the sizes that an entry takes
unfoldable pub sizes_text : (smallest : ℕ) → (largest : Option ℕ) → List ℕ
sizes_text smallest None = decimal smallest ++ codes " octets and more"
sizes_text smallest (Some largest) =
    decimal smallest ++ codes " to " ++ decimal largest ++ codes " octets"

-- the name of a group; one that isn't there has none
abbrev pub group_name : Option GroupConf → List ℕ
group_name None = []
group_name (Some group) = group.name

-- the newsgroups that an entry takes, and how many of an article's have to match
abbrev pub newsgroups_text : Said → List ℕ
newsgroups_text said =
    if said.entry.exactmatch
    then codes " in newsgroups " ++ said.newsgroups ++ codes " (all of them)"
    else codes " in newsgroups " ++ said.newsgroups ++ codes " (one of them)"

-- the articles that an entry takes: `0 octets and more in newsgroups * (one of them)`
unfoldable pub taken_text : Said → List ℕ
taken_text said =
    sizes_text said.entry.smallest said.entry.largest
    ++ newsgroups_text said

-- `entry 1 takes articles of 0 octets and more in newsgroups * (one of them): class 1, group G`
unfoldable pub entry_told : Config → Said → List ℕ
entry_told config said =
    codes "entry " ++ decimal said.number ++ codes " takes articles of " ++ taken_text said
    ++ codes ": class " ++ decimal said.entry.class ++ codes ", group "
    ++ group_name (slice_get config.buffers.groups.items said.entry.group)

-- no size that an article may have is taken
unfoldable pub takes_no_size : (largest_stored : ℕ) → StorageEntry → Bool
takes_no_size largest_stored entry =
    nat_lt largest_stored entry.smallest
    || not (is_limit_within (Some entry.smallest) entry.largest)

-- what is odd in an entry that another shadows, the first that does
unfoldable pub shadow_odd : (line : ℕ) → Option Said → List ℕ
shadow_odd line None = []
shadow_odd line (Some first) =
    odd_line true storage line
    (codes "the entry takes nothing: all of it is taken by entry " ++ decimal first.number)

-- what is told of an entry, among all
abbrev pub entry_text : Config → List Said → Said → List ℕ
entry_text config all said =
    told_line storage said.line (entry_told config said)
    ++ pattern_odds storage said.line said.newsgroups
    ++ odd_line (takes_no_size (largest_stored config) said.entry) storage said.line
    (codes "no article has such a size")
    ++ shadow_odd said.line (find (λ first. shadows first said) all)

-- what is told where there is no entry
abbrev pub no_entries : List Said → List ℕ
no_entries entries =
    if nat_lt 0 (length entries) then []
    else codes "storage.conf: odd: there is no entry: each article is refused\n"

-- what is told of all entries
unfoldable pub entries_text : Config → (lines : List (List ℕ)) → List ℕ
entries_text config lines =
    let all = said_entries config lines in
    flat_map (entry_text config all) all ++ no_entries all
