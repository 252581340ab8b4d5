-- Drill scripts: what the lines say (docs/FORMATS.md, Drill scripts).
use Rattle.std.specs.Prelude.{ℕ, ◌+◌, ◌++◌, List, [], ◌∷◌, bytes_eq, codes, Option, None, Some}
use Rattle.std.specs.Prelude.{Result, Ok, Err, if◌then◌else◌}
use Rattle.std.specs.Option.{option_map, option_and_then}
use Rattle.std.specs.List.{join_with_byte}
use Rattle.news_terms.specs.Lines.{crlf}
use Rattle.line_words.specs.Parts.{parts, one_of, two_of}
use Rattle.line_words.specs.Comments.{is_skipped}
use Rattle.relay_drill.specs.Words.{words, number, number_within, octets_of, place_of}

-- what a line asks
pub data Line : Type 0 where
  -- a session opens, of the peer of this number
  Opens : (session peer : ℕ) → Line
  -- octets of a session come
  Brings : (session : ℕ) (octets : List ℕ) → Line
  -- from here on octets come in pieces of so many
  Splits : (octets : ℕ) → Line
  -- a session has its turn
  Turns : (session moment : ℕ) → Line
  -- the writer of a group has its turn
  Writes : (group moment : ℕ) → Line
  -- so many times each session has its turn, then the writer of each group
  Rounds : (count moment : ℕ) → Line
  -- a session's connection is gone
  Breaks : (session : ℕ) → Line
  -- the next bit of forgetting
  Expires : (shard moment : ℕ) → Line
  -- this call of a buffer's device fails, counted from here
  Fails : (buffer call : ℕ) → Line
  -- the relay is closed and started again
  Restarts : Line
  -- the relay is killed, repaired and started
  Crashes : Line
  -- it is so once this call of a buffer's device is done, counted from here
  CrashesAt : (buffer call : ℕ) → Line
  -- the report is printed
  Reports : Line

-- The names that a script may use, each list in the order of its numbers.
pub record Names : Type 0 where
  pub peers : List (List ℕ)
  pub buffers : List (List ℕ)

-- the first word of a line
pub data Keyword : Type 0 where
  OPEN : Keyword
  SEND : Keyword
  RAW : Keyword
  SPLIT : Keyword
  TURN : Keyword
  WRITE : Keyword
  ROUNDS : Keyword
  BREAK : Keyword
  EXPIRE : Keyword
  FAIL : Keyword
  RESTART : Keyword
  CRASH : Keyword
  REPORT : Keyword

-- the keyword that the word is
abbrev pub keyword_of : List ℕ → Option Keyword
keyword_of word =
    if bytes_eq word (codes "open") then Some OPEN
    else if bytes_eq word (codes "send") then Some SEND
    else if bytes_eq word (codes "raw") then Some RAW
    else if bytes_eq word (codes "split") then Some SPLIT
    else if bytes_eq word (codes "turn") then Some TURN
    else if bytes_eq word (codes "write") then Some WRITE
    else if bytes_eq word (codes "rounds") then Some ROUNDS
    else if bytes_eq word (codes "break") then Some BREAK
    else if bytes_eq word (codes "expire") then Some EXPIRE
    else if bytes_eq word (codes "fail") then Some FAIL
    else if bytes_eq word (codes "restart") then Some RESTART
    else if bytes_eq word (codes "crash") then Some CRASH
    else if bytes_eq word (codes "report") then Some REPORT
    else None

-- a line of two values, where both are there
abbrev pub both : {A B : Type 0} → (A → B → Line) → Option A → Option B → Option Line
both line None second = None
both line (Some first) None = None
both line (Some first) (Some second) = Some (line first second)

-- `open S PEER`
abbrev pub open_line : List (List ℕ) → List ℕ × List ℕ → Option Line
open_line peers two = both Opens (number two.0) (place_of peers two.1)

-- `send S TEXT`: the words after S, with the spaces between them, are the text
abbrev pub send_line : List (List ℕ) → Option Line
send_line [] = None
send_line (session ∷ text) =
    option_map (λ s. Brings s (join_with_byte 32 text ++ crlf)) (number session)

-- `raw S HEX`
abbrev pub raw_line : List ℕ × List ℕ → Option Line
raw_line two = both Brings (number two.0) (octets_of two.1)

-- `split N`
abbrev pub split_line : List ℕ → Option Line
split_line octets = option_map Splits (number_within 1 4096 octets)

-- `turn S MOMENT`
abbrev pub turn_line : List ℕ × List ℕ → Option Line
turn_line two = both Turns (number two.0) (number two.1)

-- `write G MOMENT`
abbrev pub write_line : List ℕ × List ℕ → Option Line
write_line two = both Writes (number two.0) (number two.1)

-- `rounds N MOMENT`
abbrev pub rounds_line : List ℕ × List ℕ → Option Line
rounds_line two = both Rounds (number_within 1 100000 two.0) (number two.1)

-- `break S`
abbrev pub break_line : List ℕ → Option Line
break_line session = option_map Breaks (number session)

-- `expire K MOMENT`
abbrev pub expire_line : List ℕ × List ℕ → Option Line
expire_line two = both Expires (number two.0) (number two.1)

-- `fail BUFFER K`
abbrev pub fail_line : List (List ℕ) → List ℕ × List ℕ → Option Line
fail_line buffers two = both Fails (place_of buffers two.0) (number_within 1 1000000 two.1)

-- `crash BUFFER K`
abbrev pub crash_at_line : List (List ℕ) → List ℕ × List ℕ → Option Line
crash_at_line buffers two =
    both CrashesAt (place_of buffers two.0) (number_within 1 1000000 two.1)

-- `crash`, alone or with what it crashes behind
abbrev pub crash_line : (buffers after : List (List ℕ)) → Option Line
crash_line buffers [] = Some Crashes
crash_line buffers (word ∷ more) =
    option_and_then (crash_at_line buffers) (two_of (word ∷ more))

-- `restart` and `report`: the line of a keyword that no word follows
abbrev pub line_alone : Line → List (List ℕ) → Option Line
line_alone line [] = Some line
line_alone line (word ∷ more) = None

-- a keyword with the words that follow it; None is a bad line
abbrev pub line_with : Names → List (List ℕ) → Keyword → Option Line
line_with names after OPEN = option_and_then (open_line names.peers) (two_of after)
line_with names after SEND = send_line after
line_with names after RAW = option_and_then raw_line (two_of after)
line_with names after SPLIT = option_and_then split_line (one_of after)
line_with names after TURN = option_and_then turn_line (two_of after)
line_with names after WRITE = option_and_then write_line (two_of after)
line_with names after ROUNDS = option_and_then rounds_line (two_of after)
line_with names after BREAK = option_and_then break_line (one_of after)
line_with names after EXPIRE = option_and_then expire_line (two_of after)
line_with names after FAIL = option_and_then (fail_line names.buffers) (two_of after)
line_with names after RESTART = line_alone Restarts after
line_with names after CRASH = crash_line names.buffers after
line_with names after REPORT = line_alone Reports after

-- what these words say; None is a bad line
abbrev pub line_of_words : Names → List (List ℕ) → Option Line
line_of_words names [] = None
line_of_words names (word ∷ after) = option_and_then (line_with names after) (keyword_of word)

-- what a line says; None is a bad line
abbrev pub line_of : Names → List ℕ → Option Line
line_of names line = line_of_words names (words line)

-- a line before those that follow; a bad line is named before any that follows
abbrev pub line_before : ℕ → Option Line → Result (List Line) ℕ → Result (List Line) ℕ
line_before number None after = Err number
line_before number (Some line) (Ok lines) = Ok (line ∷ lines)
line_before number (Some line) (Err bad) = Err bad

-- the lines of a script from the line of this number on, or the number of the first bad line
abbrev pub script_from : Names → ℕ → List (List ℕ) → Result (List Line) ℕ
script_from names number [] = Ok []
script_from names number (line ∷ more) =
    if is_skipped line then script_from names (number + 1) more
    else line_before number (line_of names line) (script_from names (number + 1) more)

-- the lines of a script that may use these names, or the number of its first bad line, from 1 on
abbrev pub script_of : Names → List ℕ → Result (List Line) ℕ
script_of names text = script_from names 1 (parts 10 text)
