-- What a script asks for without a crash.
use Rattle.std.proofs.Common.{◌≡◌, ℕ, zero, suc, ◌+◌, true, false, List, [], ◌∷◌, refl}
use Rattle.std.proofs.lemmas.Bool.{and_from, or_parts, true≢false}
use Rattle.std.specs.List.{list_any}
use Rattle.relay_drill.specs.Laws.{is_crash, is_one_life}
use Rattle.relay_drill.specs.Script as script
use Rattle.relay_drill.specs.Script.{Line}
use Rattle.relay_drill.specs.Todo.{Stand, Todo, at_moment, bring_each, is_armed, line_asks}
use Rattle.relay_drill.specs.Todo.{lines_ask}
use Rattle.relay_drill.specs.Todo.{pieces_of, round_each, turn_each, with_session, write_each}

-- pieces that come are no crash
pieces_one : (session : ℕ) (pieces : List (List ℕ)) (more : Todo) → is_one_life more ≡ true
    → is_one_life (bring_each session pieces more) ≡ true
pieces_one session [] more one = one
pieces_one session (piece ∷ pieces) more one = pieces_one session pieces more one

-- nor are Turns
turns_one : (moment : ℕ) (sessions : List ℕ) (more : Todo) → is_one_life more ≡ true
    → is_one_life (turn_each moment sessions more) ≡ true
turns_one moment [] more one = one
turns_one moment (session ∷ sessions) more one = turns_one moment sessions more one

-- nor Writes
writes_one : (moment group count : ℕ) (more : Todo) → is_one_life more ≡ true
    → is_one_life (write_each moment group count more) ≡ true
writes_one moment group zero more one = one
writes_one moment group (suc count) more one = writes_one moment (group + 1) count more one

-- nor rounds
rounds_one : (groups moment : ℕ) (sessions : List ℕ) (count : ℕ) (more : Todo)
    → is_one_life more ≡ true → is_one_life (round_each groups moment sessions count more) ≡ true
rounds_one groups moment sessions zero more one = one
rounds_one groups moment sessions (suc count) more one =
    turns_one moment sessions _
    (writes_one moment 0 groups _ (rounds_one groups moment sessions count more one))

-- a line that is no crash asks for none
line_one : (groups : ℕ) (line : Line) (stand : Stand) (next : Stand → Todo)
    → is_crash line ≡ false → ((other : Stand) → is_one_life (next other) ≡ true)
    → is_one_life (line_asks groups line stand next) ≡ true
line_one groups (script.Opens session peer) stand next calm one =
    and_from _ _ (one (with_session stand session)) (one stand)
line_one groups (script.Brings session octets) stand next calm one =
    pieces_one session (pieces_of stand.piece octets) (next stand) (one stand)
line_one groups (script.Splits size) stand next calm one = one _
line_one groups (script.Turns session moment) stand next calm one = one _
line_one groups (script.Writes group moment) stand next calm one = one _
line_one groups (script.Rounds count moment) stand next calm one =
    rounds_one groups moment stand.sessions count _ (one (at_moment stand moment))
line_one groups (script.Breaks session) stand next calm one = one _
line_one groups (script.Expires shard moment) stand next calm one = one _
line_one groups (script.Fails buffer call) stand next calm one = one _
line_one groups script.Restarts stand next calm one = one _
line_one groups script.Crashes stand next calm one = absurd (true≢false calm)
line_one groups (script.CrashesAt buffer call) stand next calm one = absurd (true≢false calm)
line_one groups script.Reports stand next calm one = one _

-- behind a line that is no crash none is ahead
none_armed : (line : Line) → is_crash line ≡ false → is_armed false line ≡ false
none_armed (script.Opens session peer) calm = refl
none_armed (script.Brings session octets) calm = refl
none_armed (script.Splits size) calm = refl
none_armed (script.Turns session moment) calm = refl
none_armed (script.Writes group moment) calm = refl
none_armed (script.Rounds count moment) calm = refl
none_armed (script.Breaks session) calm = refl
none_armed (script.Expires shard moment) calm = refl
none_armed (script.Fails buffer call) calm = refl
none_armed script.Restarts calm = refl
none_armed script.Crashes calm = refl
none_armed (script.CrashesAt buffer call) calm = calm
none_armed script.Reports calm = refl

-- Lines of which none is a crash ask for none.
pub lines_one : (groups : ℕ) (lines : List Line) (stand : Stand)
    → list_any is_crash lines ≡ false → is_one_life (lines_ask groups lines stand) ≡ true
lines_one groups [] stand none = refl
lines_one groups (line ∷ lines) stand none =
    let both = or_parts (is_crash line) (list_any is_crash lines) none in
    line_one groups line stand _ both.0
    (λ other. rw (none_armed line both.0) (lines_one groups lines other both.1))
