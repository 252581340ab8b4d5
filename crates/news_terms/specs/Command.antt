-- Command lines (RFC 3977 section 3.1, RFC 4644; docs/FORMATS.md, Command lines). A line is taken
-- without its CRLF.
use Rattle.std.specs.Prelude.{ℕ, ◌==◌, nat_le, ◌&&◌, ◌||◌, Bool, false}
use Rattle.std.specs.Prelude.{List, [], ◌∷◌, length, codes, Option, None, Some, is_none}
use Rattle.std.specs.Prelude.{Result, Ok, Err, if◌then◌else◌}
use Rattle.std.specs.Str.{str_eq_ignore_ascii_case, all_ascii_digits}
use Rattle.std.specs.Str.Parse.{digits_value}
use Rattle.std.specs.List.{slice_split}
use Rattle.news_terms.specs.MessageId.{id_fault}
use Rattle.news_terms.specs.Lines.{is_white, words_between}

-- the words of a line: what stands between SPs and TABs, and at either end
abbrev pub words : List ℕ → List (List ℕ)
words line = words_between is_white line

-- the first words of the commands
pub data Keyword : Type 0 where
  CAPABILITIES : Keyword
  HELP : Keyword
  DATE : Keyword
  QUIT : Keyword
  MODE : Keyword
  CHECK : Keyword
  IHAVE : Keyword
  TAKETHIS : Keyword
  ARTICLE : Keyword
  HEAD : Keyword
  BODY : Keyword
  STAT : Keyword
  OVER : Keyword
  XTAKE : Keyword
  XFETCH : Keyword

-- how each keyword is spelled
abbrev pub keywords : List (List ℕ × Keyword)
keywords =
    (codes "CAPABILITIES", CAPABILITIES) ∷ (codes "HELP", HELP) ∷ (codes "DATE", DATE)
    ∷ (codes "QUIT", QUIT) ∷ (codes "MODE", MODE) ∷ (codes "CHECK", CHECK) ∷ (codes "IHAVE", IHAVE)
    ∷ (codes "TAKETHIS", TAKETHIS) ∷ (codes "ARTICLE", ARTICLE) ∷ (codes "HEAD", HEAD)
    ∷ (codes "BODY", BODY) ∷ (codes "STAT", STAT) ∷ (codes "OVER", OVER) ∷ (codes "XTAKE", XTAKE)
    ∷ (codes "XFETCH", XFETCH) ∷ []

-- the first entry of a table whose spelling is the word's, without regard to ASCII case
abbrev pub look_up : {A : Type 0} → List (List ℕ × A) → List ℕ → Option A
look_up [] word = None
look_up (entry ∷ table) word =
    if str_eq_ignore_ascii_case word entry.0 then Some entry.1 else look_up table word

-- the keyword that a word spells
abbrev pub keyword_of : List ℕ → Option Keyword
keyword_of word = look_up keywords word

-- which part of an article a command asks for
pub data Part : Type 0 where
  -- ARTICLE
  WholeText : Part
  -- HEAD
  Header : Part
  -- BODY
  BodyLines : Part
  -- OVER
  OverviewLine : Part
  -- STAT
  Presence : Part

-- what a command line asks
pub data Command : Type 0 where
  AskCapabilities : Command
  AskHelp : Command
  AskDate : Command
  Quit : Command
  ModeStream : Command
  ModeReader : Command
  Check : (id : List ℕ) → Command
  Ihave : (id : List ℕ) → Command
  -- a block follows; the message-id is there only where the one word that follows is one
  TakeThis : (id : Option (List ℕ)) → Command
  Fetch : (part : Part) (id : List ℕ) → Command
  -- a fetch of the current article, or by number: it wants a group, and none is ever selected
  NeedsGroup : Command
  TakeQueue : (most : ℕ) → Command
  -- the word isn't looked at yet
  FetchToken : (word : List ℕ) → Command

-- why a line is no command
pub data CommandFault : Type 0 where
  -- no word, or a first word that is no keyword
  Unknown : CommandFault
  -- a keyword with other words than it takes
  Syntax : CommandFault

-- the text is a message-id
abbrev pub is_id : List ℕ → Bool
is_id text = is_none (id_fault text)

-- 1 to 16 decimal digits
abbrev pub is_number : List ℕ → Bool
is_number word = nat_le 1 (length word) && nat_le (length word) 16 && all_ascii_digits word

-- what stands between hyphens: a number, a number and nothing, or two numbers
abbrev pub is_range_of : List (List ℕ) → Bool
is_range_of [] = false
is_range_of (low ∷ []) = is_number low
is_range_of (low ∷ high ∷ []) = is_number low && (length high == 0 || is_number high)
is_range_of (low ∷ high ∷ more ∷ mores) = false

-- a number, or a range of numbers (RFC 3977 section 8.3)
abbrev pub is_range : List ℕ → Bool
is_range word = is_range_of (slice_split (λ c. c == 45) word)

-- a command that takes no word
abbrev pub alone : Command → List (List ℕ) → Result Command CommandFault
alone command [] = Ok command
alone command (word ∷ more) = Err Syntax

-- CAPABILITIES: the one word that may follow is ignored
abbrev pub capabilities_with : List (List ℕ) → Result Command CommandFault
capabilities_with [] = Ok AskCapabilities
capabilities_with (word ∷ []) = Ok AskCapabilities
capabilities_with (word ∷ another ∷ more) = Err Syntax

-- MODE: STREAM or READER, without regard to ASCII case
abbrev pub mode_with : List (List ℕ) → Result Command CommandFault
mode_with [] = Err Syntax
mode_with (word ∷ []) =
    if str_eq_ignore_ascii_case word (codes "STREAM") then Ok ModeStream
    else (if str_eq_ignore_ascii_case word (codes "READER") then Ok ModeReader else Err Syntax)
mode_with (word ∷ another ∷ more) = Err Syntax

-- CHECK and IHAVE: one message-id
abbrev pub offer_with : (List ℕ → Command) → List (List ℕ) → Result Command CommandFault
offer_with command [] = Err Syntax
offer_with command (word ∷ []) = if is_id word then Ok (command word) else Err Syntax
offer_with command (word ∷ another ∷ more) = Err Syntax

-- TAKETHIS: any words, and a message-id only where it is the one that follows
abbrev pub takethis_with : List (List ℕ) → Result Command CommandFault
takethis_with [] = Ok (TakeThis None)
takethis_with (word ∷ []) = if is_id word then Ok (TakeThis (Some word)) else Ok (TakeThis None)
takethis_with (word ∷ another ∷ more) = Ok (TakeThis None)

-- a fetch: a message-id; or no word, or what stands for numbers, which wants a group
abbrev pub fetch_with : Part → (List ℕ → Bool) → List (List ℕ) → Result Command CommandFault
fetch_with part is_numeric [] = Ok NeedsGroup
fetch_with part is_numeric (word ∷ []) =
    if is_id word then Ok (Fetch part word)
    else (if is_numeric word then Ok NeedsGroup else Err Syntax)
fetch_with part is_numeric (word ∷ another ∷ more) = Err Syntax

-- XTAKE: a number from 1 to 1,000
abbrev pub xtake_with : List (List ℕ) → Result Command CommandFault
xtake_with [] = Err Syntax
xtake_with (word ∷ []) =
    if nat_le 1 (length word) && all_ascii_digits word && nat_le 1 (digits_value 10 word)
    && nat_le (digits_value 10 word) 1000
    then Ok (TakeQueue (digits_value 10 word)) else Err Syntax
xtake_with (word ∷ another ∷ more) = Err Syntax

-- XFETCH: one word
abbrev pub xfetch_with : List (List ℕ) → Result Command CommandFault
xfetch_with [] = Err Syntax
xfetch_with (word ∷ []) = Ok (FetchToken word)
xfetch_with (word ∷ another ∷ more) = Err Syntax

-- what a keyword asks with the words after it
abbrev pub command_with : Keyword → List (List ℕ) → Result Command CommandFault
command_with CAPABILITIES after = capabilities_with after
command_with HELP after = alone AskHelp after
command_with DATE after = alone AskDate after
command_with QUIT after = alone Quit after
command_with MODE after = mode_with after
command_with CHECK after = offer_with Check after
command_with IHAVE after = offer_with Ihave after
command_with TAKETHIS after = takethis_with after
command_with ARTICLE after = fetch_with WholeText is_number after
command_with HEAD after = fetch_with Header is_number after
command_with BODY after = fetch_with BodyLines is_number after
command_with STAT after = fetch_with Presence is_number after
command_with OVER after = fetch_with OverviewLine is_range after
command_with XTAKE after = xtake_with after
command_with XFETCH after = xfetch_with after

-- by the keyword, where the word spells one
abbrev pub command_by : Option Keyword → List (List ℕ) → Result Command CommandFault
command_by None after = Err Unknown
command_by (Some keyword) after = command_with keyword after

-- by the words: the first is the keyword
abbrev pub command_of_words : List (List ℕ) → Result Command CommandFault
command_of_words [] = Err Unknown
command_of_words (word ∷ after) = command_by (keyword_of word) after

-- what a line asks
abbrev pub command_of : List ℕ → Result Command CommandFault
command_of line = command_of_words (words line)
