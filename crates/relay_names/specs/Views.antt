-- Names of the code as the definitions have them.
use Rattle.std.specs.Prelude.{◌≡◌, map, option_map, Option, None, Some, Result, Ok, Err}
use Rattle.line_words.specs.Words.{words}
use Rattle.line_words.specs.declared.words.Between.TheVariants.{Spaces}
use Rattle.relay_names.specs.declared.names.GroupNames.{GroupNames}
use Rattle.relay_names.specs.declared.names.Names.{Names}
use Rattle.relay_names.specs.declared.told.Told.{Told}
use Rattle.relay_names.specs.declared.told.NamesError.{NamesError}
use Rattle.relay_names.specs.declared.told.NamesError.TheVariants.{Memory, BadNames}
use Rattle.relay_names.specs.declared.lines.Line.{Line}
use Rattle.relay_names.specs.declared.lines.Line.TheVariants as lines
use Rattle.relay_names.specs.Names as terms
use Rattle.relay_names.specs.Text.{NamesLine, At, After, BufferLine, GroupLine, FeedLine}

-- the names of a group
abbrev pub group_view : GroupNames → terms.GroupNames
group_view group = record { name = group.name; buffers = group.buffers.items }

-- names of each kind
abbrev pub names_view : Names → terms.Names
names_view names =
    record {
      buffers = names.buffers.items;
      groups = map group_view names.groups.items;
      feeds = names.feeds.items;
    }

-- what is told
abbrev pub told_view : Told → terms.Told
told_view told =
    record {
      stop = told.stop;
      last = option_map names_view told.last;
      later = names_view told.later;
    }

-- a line; the names of a group's buffers are the words of its text
abbrev pub line_view : Line → NamesLine
line_view (lines.At stop) = At stop
line_view (lines.After stop) = After stop
line_view (lines.Buffer name) = BufferLine name.now
line_view (lines.Group name text) = GroupLine name.now (words Spaces text.now)
line_view (lines.Feed name) = FeedLine name.now

-- the answer, seen so, is what a text says, or that it says nothing, unless memory ran out
abbrev pub TextGives : {A B : Type 0} → (A → B) → Result A NamesError → Option B → Type 0
TextGives view (Ok read) said = said ≡ Some (view read)
TextGives view (Err Memory) said = Unit {0}
TextGives view (Err BadNames) said = said ≡ None
