-- What is left to be done of a part, one after the other.
use Rattle.std.proofs.Common.{◌≡◌, ℕ, suc, ◌+◌, ◌-◌, ◌<◌, ◌≤◌, List, map, length, drop, get_or}
use Rattle.std.proofs.Common.{Bool, [], ◌∷◌, ◌∙◌, refl, zero, ap, arith, min, take}
use Rattle.std.proofs.lemmas.List.{at_drop_more, at_drop_all}
use Rattle.relay_model.specs.Run.{Bytes, Write}
use Rattle.relay_drill.specs.Fault.{line_view}
use Rattle.relay_drill.specs.declared.line.Line.{Line}
use Rattle.relay_drill.specs.Todo.{Todo, Done, Next, TurnOf, Stand, behind_cut, behind_line}
use Rattle.relay_drill.specs.Todo.{bring_each, is_armed, line_asks, lines_left, pieces_in}
use Rattle.relay_drill.specs.Todo.{round_each, turn_each, write_each}
use Rattle.relay_drill.proofs.Pieces.{next_pieces, no_octets}

-- what is left of a count is one more
one_left : (at count : ℕ) → at < count → count - at ≡ suc (count - (at + 1))
one_left at count h = omega arith

-- a count that is over has nothing left
none_left : (at count : ℕ) → count ≤ at → count - at ≡ 0
none_left at count h = omega arith

-- The writer of one more group has its Write.
pub write_next : (moment at groups : ℕ) (more : Todo) → at < groups
    → write_each moment at (groups - at) more ≡ Next (Write at moment)
    (write_each moment (at + 1) (groups - (at + 1)) more)
write_next moment at groups more h =
    ap (λ count. write_each moment at count more) (one_left at groups h)

-- No writer is left.
pub write_last : (moment at groups : ℕ) (more : Todo) → groups ≤ at
    → write_each moment at (groups - at) more ≡ more
write_last moment at groups more h =
    ap (λ count. write_each moment at count more) (none_left at groups h)

-- One more round.
pub round_next : (groups moment at count : ℕ) (sessions : List ℕ) (more : Todo) → at < count
    → round_each groups moment sessions (count - at) more ≡ turn_each moment sessions
    (write_each moment 0 groups (round_each groups moment sessions (count - (at + 1)) more))
round_next groups moment at count sessions more h =
    ap (λ left. round_each groups moment sessions left more) (one_left at count h)

-- No round is left.
pub round_last : (groups moment at count : ℕ) (sessions : List ℕ) (more : Todo) → count ≤ at
    → round_each groups moment sessions (count - at) more ≡ more
round_last groups moment at count sessions more h =
    ap (λ left. round_each groups moment sessions left more) (none_left at count h)

-- One more session has its Turn.
pub turn_next : (moment at : ℕ) (sessions : List ℕ) (more : Todo) → at < length sessions
    → turn_each moment (drop at sessions) more ≡ TurnOf (get_or sessions at 0) moment
    (turn_each moment (drop (at + 1) sessions) more)
turn_next moment at sessions more h =
    at_drop_more (λ left. turn_each moment left more) sessions at 0 h

-- No session is left.
pub turn_last : (moment at : ℕ) (sessions : List ℕ) (more : Todo) → length sessions ≤ at
    → turn_each moment (drop at sessions) more ≡ more
turn_last moment at sessions more h =
    at_drop_all (λ left. turn_each moment left more) sessions at h

-- One more line is done.
pub line_next : (groups at : ℕ) (armed : Bool) (lines : List Line) (line : Line) (stand : Stand)
    → at < length lines → line ≡ get_or lines at line
    → lines_left groups armed (map line_view (drop at lines)) stand
    ≡ line_asks groups (line_view line) stand (behind_line (is_armed armed (line_view line))
    (λ later. lines_left groups later (map line_view (drop (at + 1) lines))))
line_next groups at armed lines line stand h is =
    rw (← is) at (at_drop_more (λ left. lines_left groups armed (map line_view left) stand)
    lines at line h)

-- No line is left.
pub line_last : (groups at : ℕ) (armed : Bool) (lines : List Line) (stand : Stand)
    → length lines ≤ at
    → lines_left groups armed (map line_view (drop at lines)) stand ≡ Done
line_last groups at armed lines stand h =
    at_drop_all (λ left. lines_left groups armed (map line_view left) stand) lines at h

-- One more piece comes.
pub piece_next : (session size mid : ℕ) (rest piece after : List ℕ) (more : Todo) → 0 < size
    → 0 < length rest → mid ≡ min size (length rest) → piece ≡ take mid rest
    → after ≡ drop mid rest → bring_each session (pieces_in (length rest) size rest) more ≡ Next
    (Bytes session piece) (bring_each session (pieces_in (length after) size after) more)
piece_next session size mid rest piece after more some h m p a =
    ap (λ pieces. bring_each session pieces more)
    (next_pieces size mid rest piece after some h m p a)

-- No piece is left.
pub piece_last : (session size : ℕ) (rest : List ℕ) (more : Todo) → length rest ≡ 0
    → bring_each session (pieces_in (length rest) size rest) more ≡ more
piece_last session size rest more h =
    ap (λ it. bring_each session (pieces_in (length it) size it) more) (no_octets rest h)

-- Behind pieces that come a cut leads to where it does behind them.
pub pieces_cut : (session : ℕ) (pieces : List (List ℕ)) (more : Todo)
    → behind_cut (bring_each session pieces more) ≡ behind_cut more
pieces_cut session [] more = refl
pieces_cut session (piece ∷ pieces) more = pieces_cut session pieces more

-- So it does behind Turns,
pub turns_cut : (moment : ℕ) (sessions : List ℕ) (more : Todo)
    → behind_cut (turn_each moment sessions more) ≡ behind_cut more
turns_cut moment [] more = refl
turns_cut moment (session ∷ sessions) more = turns_cut moment sessions more

-- Writes,
pub writes_cut : (moment group count : ℕ) (more : Todo)
    → behind_cut (write_each moment group count more) ≡ behind_cut more
writes_cut moment group zero more = refl
writes_cut moment group (suc count) more = writes_cut moment (group + 1) count more

-- and rounds.
pub rounds_cut : (groups moment : ℕ) (sessions : List ℕ) (count : ℕ) (more : Todo)
    → behind_cut (round_each groups moment sessions count more) ≡ behind_cut more
rounds_cut groups moment sessions zero more = refl
rounds_cut groups moment sessions (suc count) more =
    turns_cut moment sessions _
    ∙ writes_cut moment 0 groups _
    ∙ rounds_cut groups moment sessions count more
