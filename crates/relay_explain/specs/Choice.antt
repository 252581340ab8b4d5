-- Where an article goes by its newsgroups and its size, or why the relay refuses it by these
-- (docs/PROTOCOL.md, Judging).
use Rattle.std.specs.Prelude.{ℕ, not, List, ◌++◌, codes, decimal, filter_map, find, length}
use Rattle.std.specs.Prelude.{map, nat_lt, option_map, slice_get, Option, Some, None}
use Rattle.std.specs.Prelude.{if◌then◌else◌}
use Rattle.line_words.specs.Parts.{parts}
use Rattle.news_terms.specs.Article.{is_newsgroup_name, without_outer_white}
use Rattle.news_terms.specs.StorageClass.{chosen_entry}
use Rattle.relay_conf.specs.Choice.{given}
use Rattle.relay_conf.specs.Storage.{entry_view}
use Rattle.relay_conf.specs.declared.cycbuff.BufferConf.{BufferConf}
use Rattle.relay_conf.specs.declared.cycbuff.GroupConf.{GroupConf}
use Rattle.relay_conf.specs.declared.settings.Config.{Config}
use Rattle.relay_model.specs.Terms.{Reason, Size, Grammar, IdMismatch, BadPath, Loop, Date, NoClass}
use Rattle.relay_model.specs.Terms.{TooLarge}
use Rattle.relay_explain.specs.Buffers.{group_told, largest_stored, room_of}

-- a reason by its number and its name
abbrev pub reason_text : Reason → List ℕ
reason_text Size = codes "1 Size"
reason_text Grammar = codes "2 Grammar"
reason_text IdMismatch = codes "3 IdMismatch"
reason_text BadPath = codes "4 BadPath"
reason_text Loop = codes "5 Loop"
reason_text Date = codes "6 Date"
reason_text NoClass = codes "7 NoClass"
reason_text TooLarge = codes "8 TooLarge"

-- a refusal, with its reason, and that in words
abbrev pub refused_text : Reason → (words : List ℕ) → List ℕ
refused_text reason words =
    codes "refused: " ++ reason_text reason ++ codes ", " ++ words ++ codes "\n"

-- the names of newsgroups with commas between them, each without white space at its ends
-- (docs/FORMATS.md, Articles)
abbrev pub names_in : (newsgroups : List ℕ) → List (List ℕ)
names_in newsgroups = map without_outer_white (parts 44 newsgroups)

-- one of so many names that is no newsgroup's, in words
abbrev pub name_words : (names : ℕ) → (name : List ℕ) → List ℕ
name_words names name =
    if nat_lt 0 (length name) then name ++ codes " is no newsgroup's name"
    else if nat_lt 1 names then codes "a newsgroup's name is empty"
    else codes "there is no newsgroup"

-- the first buffer of these numbers that has no room for so many octets
unfoldable pub first_small : List BufferConf → (numbers : List ℕ) → (size : ℕ) → Option BufferConf
first_small buffers numbers size =
    find (λ buffer. nat_lt (room_of buffer.blocks) size) (filter_map (slice_get buffers) numbers)

-- an article goes to this group, or one of its buffers has no room for it
unfoldable pub placed_text : List BufferConf → (class : ℕ) → GroupConf → Option BufferConf → List ℕ
placed_text buffers class group None =
    codes "class " ++ decimal class ++ codes ", " ++ group_told buffers group ++ codes "\n"
placed_text buffers class group (Some buffer) =
    refused_text TooLarge
    (codes "buffer " ++ buffer.name ++ codes " of group " ++ group.name
    ++ codes " has room for " ++ decimal (room_of buffer.blocks) ++ codes " octets")

-- what is told of an article of so many octets by its class and the group of that, where it is
-- there
unfoldable pub class_text : List BufferConf → (size class : ℕ) → Option GroupConf → List ℕ
class_text buffers size class None = codes "class " ++ decimal class ++ codes "\n"
class_text buffers size class (Some group) =
    placed_text buffers class group (first_small buffers group.buffers.items size)

-- what is told of it by the class and the group that it is given
unfoldable pub taken_text : Config → (size : ℕ) → (taken : Option (ℕ × ℕ)) → List ℕ
taken_text config size None = refused_text NoClass (codes "no entry takes it")
taken_text config size (Some taken) =
    class_text config.buffers.buffers.items size taken.0
    (slice_get config.buffers.groups.items taken.1)

-- what is told of it by its newsgroups, the first of which that has no newsgroup's name is this
unfoldable pub named_text : Config → (names : List (List ℕ)) → (size : ℕ)
    → (wrong : Option (List ℕ)) → List ℕ
named_text config names size (Some name) = refused_text Grammar (name_words (length names) name)
named_text config names size None =
    taken_text config size (option_map given
    (chosen_entry (map entry_view config.storage_entries.items) names size))

-- what is told of an article of these newsgroups and of so many octets as it is stored: the first
-- reason for which it is refused, or where it goes
unfoldable pub fate_text : Config → (names : List (List ℕ)) → (size : ℕ) → List ℕ
fate_text config names size =
    if nat_lt (largest_stored config) size
    then refused_text Size (codes "the largest article has " ++ decimal (largest_stored config)
    ++ codes " octets")
    else named_text config names size (find (λ name. not (is_newsgroup_name name)) names)

-- where an article of these newsgroups, with commas between them, and of so many octets goes, or
-- why it is refused:
-- `comp.lang.c, 2000 octets: class 2, group TEXT, article by article in turn: TEXT1 TEXT2`,
-- `a,,b, 2000 octets: refused: 2 Grammar, a newsgroup's name is empty`
abbrev pub choice_text : Config → (newsgroups : List ℕ) → (size : ℕ) → List ℕ
choice_text config newsgroups size =
    newsgroups ++ codes ", " ++ decimal size ++ codes " octets: "
    ++ fate_text config (names_in newsgroups) size
