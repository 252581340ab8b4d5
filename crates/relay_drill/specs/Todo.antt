-- What a script asks for, in order (docs/FORMATS.md, Drill scripts). What is to be done is known
-- step by step: which sessions a round serves hangs on which were opened, and which are closed.
use Rattle.std.specs.Prelude.{ℕ, zero, suc, ◌+◌, ◌++◌, Bool, true, false, List, [], ◌∷◌, length}
use Rattle.std.specs.Prelude.{take, drop, Option, None, Some}
use Rattle.relay_model.specs.Run.{Event, Bytes, Turn, Write, Break, Expire}
use Rattle.relay_drill.specs.Script.{Line, Opens, Brings, Splits, Turns, Writes, Rounds, Breaks}
use Rattle.relay_drill.specs.Script.{Expires, Fails, Restarts, Crashes, CrashesAt, Reports}

-- what is still to be done
pub data Todo : Type 0 where
  -- nothing
  Done : Todo
  -- this event, and then more
  Next : (event : Event) (more : Todo) → Todo
  -- a session's Turn where it isn't closed, and then more
  TurnOf : (session moment : ℕ) (more : Todo) → Todo
  -- the relay is closed and started again, and then more
  Restarting : (more : Todo) → Todo
  -- the relay is killed, and repaired at this moment, and then more
  Crashing : (moment : ℕ) (more : Todo) → Todo
  -- from here on a crash is ahead: the power goes behind a call that a device is asked for
  Arming : (more : Todo) → Todo
  -- a line is over, and a crash is still ahead; where the power went in it the rest of the line
  -- isn't done, the relay is repaired at this moment, and what follows is another
  Survived : (moment : ℕ) (cut more : Todo) → Todo
  -- the report of the relay as it is, and then more
  Report : (more : Todo) → Todo
  -- a session opens; what follows hangs on whether that is refused
  Opening : (session peer : ℕ) (opened refused : Todo) → Todo

-- the pieces of so many octets, the last of what is left; n turns are enough for n octets
abbrev pub pieces_in : ℕ → ℕ → List ℕ → List (List ℕ)
pieces_in zero size octets = []
pieces_in (suc turns) size [] = []
pieces_in (suc turns) size (c ∷ cs) =
    take size (c ∷ cs) ∷ pieces_in turns size (drop size (c ∷ cs))

-- octets as they come: whole, or in pieces
abbrev pub pieces_of : Option ℕ → List ℕ → List (List ℕ)
pieces_of None octets = pieces_in (length octets) (length octets) octets
pieces_of (Some size) octets = pieces_in (length octets) size octets

-- how a drill stands: the sessions that it opened since the last crash, in rising order, the octets
-- of a piece, where octets are split, and the moment that a line named last
pub record Stand : Type 0 where
  pub sessions : List ℕ
  pub piece : Option ℕ
  pub moment : ℕ

-- nothing is open, nothing is split, and no moment was named
abbrev pub first_stand : Stand
first_stand = record { sessions = []; piece = None; moment = 0 }

-- one more session was opened
abbrev pub with_session : Stand → ℕ → Stand
with_session stand session = record stand { sessions = stand.sessions ++ session ∷ [] }

-- a line names this moment
abbrev pub at_moment : Stand → ℕ → Stand
at_moment stand moment = record stand { moment = moment }

-- nobody is here after a crash
abbrev pub deserted : Stand → Stand
deserted stand = record stand { sessions = [] }

-- the pieces come, one after the other
abbrev pub bring_each : (session : ℕ) → List (List ℕ) → (more : Todo) → Todo
bring_each session [] more = more
bring_each session (piece ∷ pieces) more =
    Next (Bytes session piece) (bring_each session pieces more)

-- each of the sessions that isn't closed has its Turn
abbrev pub turn_each : (moment : ℕ) → (sessions : List ℕ) → (more : Todo) → Todo
turn_each moment [] more = more
turn_each moment (session ∷ sessions) more =
    TurnOf session moment (turn_each moment sessions more)

-- the writers of so many groups, from this one on, have their Writes
abbrev pub write_each : (moment group count : ℕ) → (more : Todo) → Todo
write_each moment group zero more = more
write_each moment group (suc count) more =
    Next (Write group moment) (write_each moment (group + 1) count more)

-- so many rounds: each of the sessions that isn't closed, and then the writer of each group
abbrev pub round_each : (groups moment : ℕ) → (sessions : List ℕ) → (count : ℕ) → (more : Todo)
    → Todo
round_each groups moment sessions zero more = more
round_each groups moment sessions (suc count) more =
    turn_each moment sessions (write_each moment 0 groups
    (round_each groups moment sessions count more))

-- what a line asks for, where the drill stands so; what follows hangs on how it then stands. That a
-- call of a device fails is no event: the relay's definitions leave open when one does.
abbrev pub line_asks : (groups : ℕ) → Line → Stand → (Stand → Todo) → Todo
line_asks groups (Opens session peer) stand next =
    Opening session peer (next (with_session stand session)) (next stand)
line_asks groups (Brings session octets) stand next =
    bring_each session (pieces_of stand.piece octets) (next stand)
line_asks groups (Splits size) stand next = next (record stand { piece = Some size })
line_asks groups (Turns session moment) stand next =
    Next (Turn session moment) (next (at_moment stand moment))
line_asks groups (Writes group moment) stand next =
    Next (Write group moment) (next (at_moment stand moment))
line_asks groups (Rounds count moment) stand next =
    round_each groups moment stand.sessions count (next (at_moment stand moment))
line_asks groups (Breaks session) stand next = Next (Break session) (next stand)
line_asks groups (Expires shard moment) stand next =
    Next (Expire shard moment) (next (at_moment stand moment))
line_asks groups (Fails buffer call) stand next = next stand
line_asks groups Restarts stand next = Restarting (next stand)
line_asks groups Crashes stand next = Crashing stand.moment (next (deserted stand))
line_asks groups (CrashesAt buffer call) stand next = Arming (next stand)
line_asks groups Reports stand next = Report (next stand)

-- whether a crash is ahead behind a line, where it was or wasn't before it
abbrev pub is_armed : Bool → Line → Bool
is_armed armed (Opens session peer) = armed
is_armed armed (Brings session octets) = armed
is_armed armed (Splits size) = armed
is_armed armed (Turns session moment) = armed
is_armed armed (Writes group moment) = armed
is_armed armed (Rounds count moment) = armed
is_armed armed (Breaks session) = armed
is_armed armed (Expires shard moment) = armed
is_armed armed (Fails buffer call) = armed
is_armed armed Restarts = armed
is_armed armed Crashes = armed
is_armed armed (CrashesAt buffer call) = true
is_armed armed Reports = armed

-- what follows a line: where a crash is ahead it hangs on whether that came in the line, and then
-- none is ahead any more, and nobody is here
abbrev pub behind_line : (armed : Bool) → (Bool → Stand → Todo) → Stand → Todo
behind_line false next stand = next false stand
behind_line true next stand =
    Survived stand.moment (next false (deserted stand)) (next true stand)

-- what these lines ask for, one after the other, where a crash is ahead or isn't
abbrev pub lines_left : (groups : ℕ) → (armed : Bool) → List Line → Stand → Todo
lines_left groups armed [] stand = Done
lines_left groups armed (line ∷ lines) stand =
    line_asks groups line stand
    (behind_line (is_armed armed line) (λ later. lines_left groups later lines))

-- what the lines of a script ask for, one after the other
abbrev pub lines_ask : (groups : ℕ) → List Line → Stand → Todo
lines_ask groups lines stand = lines_left groups false lines stand

-- what is done where the power goes in the event before this: the rest of its line isn't, and the
-- relay is repaired. There is none where no crash is ahead.
abbrev pub behind_cut : Todo → Option Todo
behind_cut Done = None
behind_cut (Next event more) = behind_cut more
behind_cut (TurnOf session moment more) = behind_cut more
behind_cut (Restarting more) = behind_cut more
behind_cut (Crashing moment more) = None
behind_cut (Arming more) = None
behind_cut (Survived moment cut more) = Some (Crashing moment cut)
behind_cut (Report more) = behind_cut more
behind_cut (Opening session peer opened refused) = None
