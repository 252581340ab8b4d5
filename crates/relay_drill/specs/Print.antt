-- What is told, and what that prints (docs/FORMATS.md, Drill scripts: What is printed).
use Rattle.std.specs.Prelude.{ℕ, ◌==◌, ◌&&◌, Bool, List, [], ◌∷◌, ◌++◌, flat_map, codes}
use Rattle.std.specs.Prelude.{decimal, Option, None, Some, if◌then◌else◌}
use Rattle.std.specs.List.{onto_first}
use Rattle.article_verdict.specs.Verdict.{reason_name}
use Rattle.relay_model.specs.Terms.{Reason}
use Rattle.relay_model.specs.World.{Output, Quiet, Sent, Rejects, Ended, Refuses, Fault, Memory}
use Rattle.relay_model.specs.World.{NoSession, SessionTaken, NoGroup, NoPeer, BadMoment, NoShard}
use Rattle.relay_model.specs.World.{NotIdle, NotRestarted}

-- the lines of octets, without their CRLFs
abbrev pub lines_of : List ℕ → List (List ℕ)
lines_of [] = []
lines_of (a ∷ []) = (a ∷ []) ∷ []
lines_of (a ∷ b ∷ cs) =
    if a == 13 && b == 10 then [] ∷ lines_of cs else onto_first a (lines_of (b ∷ cs))

-- a line as it is printed
abbrev pub printed_line : List ℕ → List ℕ
printed_line line = line ++ 10 ∷ []

-- a line that a session is sent, after its number
abbrev pub session_line : ℕ → List ℕ → List ℕ
session_line session line = printed_line (decimal session ++ codes " " ++ line)

-- the lines that a session is sent
abbrev pub session_lines : ℕ → List ℕ → List ℕ
session_lines session octets = flat_map (session_line session) (lines_of octets)

-- the same lines, each with this note behind it
abbrev pub noted_lines : (session : ℕ) → (octets note : List ℕ) → List ℕ
noted_lines session octets note =
    flat_map (λ line. session_line session (line ++ note)) (lines_of octets)

-- what stands behind a reply by which an article is refused, which is one line
abbrev pub reason_note : Reason → List ℕ
reason_note reason = codes " reason=" ++ reason_name reason

-- the code and the name of a fault
abbrev pub fault_text : Fault → List ℕ
fault_text Memory = codes "0 Memory"
fault_text NoSession = codes "1 NoSession"
fault_text SessionTaken = codes "2 SessionTaken"
fault_text NoGroup = codes "3 NoGroup"
fault_text NoPeer = codes "4 NoPeer"
fault_text BadMoment = codes "5 BadMoment"
fault_text NoShard = codes "6 NoShard"
fault_text NotIdle = codes "7 NotIdle"
fault_text NotRestarted = codes "8 NotRestarted"

-- what an output prints; the reason for which an article is refused where reasons are told
abbrev pub printed : (reasons : Bool) → Output → List ℕ
printed reasons Quiet = []
printed reasons (Sent session octets) = session_lines session octets
printed reasons (Rejects session octets reason) =
    if reasons then noted_lines session octets (reason_note reason)
    else session_lines session octets
printed reasons (Ended session octets) =
    session_lines session octets ++ session_line session (codes "closed")
printed reasons (Refuses fault) = printed_line (codes "refused " ++ fault_text fault)

-- what the answer to a Restart prints: where nothing is said, that it was done
abbrev pub restart_text : (reasons : Bool) → Output → List ℕ
restart_text reasons Quiet = printed_line (codes "restarted")
restart_text reasons (Sent session octets) = printed reasons (Sent session octets)
restart_text reasons (Rejects session octets reason) =
    printed reasons (Rejects session octets reason)
restart_text reasons (Ended session octets) = printed reasons (Ended session octets)
restart_text reasons (Refuses fault) = printed reasons (Refuses fault)

-- what is printed of a relay that was killed, and repaired
abbrev pub repaired_text : List ℕ
repaired_text = printed_line (codes "repaired")

-- what a drill tells: what an event is answered, what a Restart is, that the relay was repaired
-- behind a crash, or the report of the relay as it is; and what it doesn't, since the power went
-- before the event was answered
pub data Told : Type 0 where
  Answered : (output : Output) → Told
  Restarted : (output : Output) → Told
  Lost : (output : Output) → Told
  Repaired : Told
  Reported : (text : List ℕ) → Told

-- what is printed of it; a report as it stands
abbrev pub told_text : (reasons : Bool) → Told → List ℕ
told_text reasons (Answered output) = printed reasons output
told_text reasons (Restarted output) = restart_text reasons output
told_text reasons (Lost output) = []
told_text reasons Repaired = repaired_text
told_text reasons (Reported text) = text

-- what is printed, one after the other
abbrev pub printed_all : (reasons : Bool) → List Told → List ℕ
printed_all reasons told = flat_map (told_text reasons) told

-- what events are answered, or would have been
abbrev pub answers_of : List Told → List Output
answers_of [] = []
answers_of (Answered output ∷ told) = output ∷ answers_of told
answers_of (Restarted output ∷ told) = output ∷ answers_of told
answers_of (Lost output ∷ told) = output ∷ answers_of told
answers_of (Repaired ∷ told) = answers_of told
answers_of (Reported text ∷ told) = answers_of told

-- STEP BY STEP

-- the note behind a line, where an article is refused by it
abbrev pub note_of : (why : Option Reason) → List ℕ
note_of None = []
note_of (Some reason) = reason_note reason
