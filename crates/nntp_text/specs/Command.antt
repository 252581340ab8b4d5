-- What reading a command line gives (docs/FORMATS.md, Command lines).
use Rattle.std.specs.Prelude.{◌≡◌, ℕ, Bool, true, false, List, Option, None, Some, Result, Ok, Err}
use Rattle.std.specs.Prelude.{IsTrue, IsOkAnd, if◌then◌else◌}
use Rattle.news_terms.specs.Command.{is_id, is_number, is_range, offer_with}
use Rattle.news_terms.specs.Command as terms
use Rattle.nntp_text.specs.declared.command.CmdError.{CmdError}
use Rattle.nntp_text.specs.declared.command.CmdError.TheVariants.{Memory, Unknown, Syntax}
use Rattle.nntp_text.specs.declared.command.Command.{Command}
use Rattle.nntp_text.specs.declared.command.Command.TheVariants as commands
use Rattle.nntp_text.specs.declared.command.Part.{Part}
use Rattle.nntp_text.specs.declared.command.Part.TheVariants as parts
use Rattle.nntp_text.specs.declared.keyword.Keyword.{Keyword}
use Rattle.nntp_text.specs.declared.keyword.Keyword.TheVariants as keywords

-- a keyword as the grammar has it
abbrev pub keyword_view : Keyword → terms.Keyword
keyword_view keywords.Capabilities = terms.CAPABILITIES
keyword_view keywords.Help = terms.HELP
keyword_view keywords.Date = terms.DATE
keyword_view keywords.Quit = terms.QUIT
keyword_view keywords.Mode = terms.MODE
keyword_view keywords.Check = terms.CHECK
keyword_view keywords.Ihave = terms.IHAVE
keyword_view keywords.TakeThis = terms.TAKETHIS
keyword_view keywords.Article = terms.ARTICLE
keyword_view keywords.Head = terms.HEAD
keyword_view keywords.Body = terms.BODY
keyword_view keywords.Stat = terms.STAT
keyword_view keywords.Over = terms.OVER
keyword_view keywords.Xtake = terms.XTAKE
keyword_view keywords.Xfetch = terms.XFETCH

-- a part of an article as the grammar has it
abbrev pub part_view : Part → terms.Part
part_view parts.WholeText = terms.WholeText
part_view parts.Header = terms.Header
part_view parts.BodyLines = terms.BodyLines
part_view parts.OverviewLine = terms.OverviewLine
part_view parts.Presence = terms.Presence

-- what stands for article numbers, where this part of an article is fetched
abbrev pub is_numeric_for : Part → List ℕ → Bool
is_numeric_for parts.WholeText word = is_number word
is_numeric_for parts.Header word = is_number word
is_numeric_for parts.BodyLines word = is_number word
is_numeric_for parts.OverviewLine word = is_range word
is_numeric_for parts.Presence word = is_number word

-- a command as the grammar has it
abbrev pub command_view : Command → terms.Command
command_view commands.AskCapabilities = terms.AskCapabilities
command_view commands.AskHelp = terms.AskHelp
command_view commands.AskDate = terms.AskDate
command_view commands.Quit = terms.Quit
command_view commands.ModeStream = terms.ModeStream
command_view commands.ModeReader = terms.ModeReader
command_view (commands.Check id) = terms.Check id
command_view (commands.Ihave id) = terms.Ihave id
command_view (commands.TakeThis id) = terms.TakeThis id
command_view (commands.Fetch part id) = terms.Fetch (part_view part) id
command_view commands.NeedsGroup = terms.NeedsGroup
command_view (commands.TakeQueue most) = terms.TakeQueue most
command_view (commands.FetchToken word) = terms.FetchToken word.now

-- the command has a message-id
abbrev pub has_id : terms.Command → Bool
has_id terms.AskCapabilities = false
has_id terms.AskHelp = false
has_id terms.AskDate = false
has_id terms.Quit = false
has_id terms.ModeStream = false
has_id terms.ModeReader = false
has_id (terms.Check id) = true
has_id (terms.Ihave id) = true
has_id (terms.TakeThis (Some id)) = true
has_id (terms.TakeThis None) = false
has_id (terms.Fetch part id) = true
has_id terms.NeedsGroup = false
has_id (terms.TakeQueue most) = false
has_id (terms.FetchToken word) = false

-- the answer is the one that the grammar asks for; memory ran out only where that is a command with
-- a message-id
abbrev pub CommandGives : Result Command CmdError → Result terms.Command terms.CommandFault → Type 0
CommandGives (Ok command) asked = asked ≡ Ok (command_view command)
CommandGives (Err Memory) asked = IsOkAnd asked (λ command. IsTrue (has_id command))
CommandGives (Err Unknown) asked = asked ≡ Err terms.Unknown
CommandGives (Err Syntax) asked = asked ≡ Err terms.Syntax

-- the answer is the one message-id that an offer asks for after its keyword; memory ran out only
-- where there is one
abbrev pub OneId : Result (List ℕ) CmdError → List (List ℕ) → Type 0
OneId (Ok id) after =
    (command : List ℕ → terms.Command) → offer_with command after ≡ Ok (command id)
OneId (Err Memory) after =
    (id : List ℕ)
    × ((command : List ℕ → terms.Command) → offer_with command after ≡ Ok (command id))
OneId (Err Unknown) after = ⊥
OneId (Err Syntax) after =
    (command : List ℕ → terms.Command) → offer_with command after ≡ Err terms.Syntax

-- the word where it is a message-id
abbrev pub id_among : List ℕ → Option (List ℕ)
id_among word = if is_id word then Some word else None
