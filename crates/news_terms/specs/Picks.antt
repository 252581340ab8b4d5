-- Which buffer of a group the next article goes to, and where it begins there, by what was begun in
-- that buffer alone (docs/PROTOCOL.md, Sizes and places; Groups and writers).
use Rattle.std.specs.Prelude.{ℕ, ◌+◌, ◌%◌, ◌==◌, ◌&&◌, nat_lt, Bool, false, List, [], ◌∷◌, ◌++◌}
use Rattle.std.specs.Prelude.{length, slice_get, Option, None, Some, if◌then◌else◌}
use Rattle.news_terms.specs.Places.{Buffer, Group, Mode, Interleave, Sequential, Head, first_head}
use Rattle.news_terms.specs.Places.{place_in_runs, head_after, blocks_of, Place, place_in_buffer}
use Rattle.news_terms.specs.Places.{on_line}

-- where a begin goes in its buffer: where it is fresh at the front of a run, which is the next one
-- where some of this one is used; else as the sizes are cut into runs
-- (docs/PROTOCOL.md, Sizes and places)
abbrev pub place_after : (blocks : ℕ) → Head → (fresh : Bool) → (size : ℕ) → Head
place_after blocks head fresh size =
    if fresh && nat_lt 0 head.used then record { run = head.run + 1; used = 0 }
    else place_in_runs (λ (run : ℕ). blocks) head size

-- the head after one more begin, which was put here
abbrev pub head_past : Head → (size : ℕ) → Head
head_past at size = record { run = at.run; used = at.used + size }

-- the head of a buffer after these begins, each its size and whether it was fresh, the newest first
abbrev pub head_of : (blocks : ℕ) → List (ℕ × Bool) → Head
head_of blocks [] = first_head
head_of blocks (begin ∷ earlier) =
    head_past (place_after blocks (head_of blocks earlier) begin.1 begin.0) begin.0

-- the front of a buffer whose head is here: the place on the line after the newest begin, or the
-- front of the first cycle where nothing was begun (docs/PROTOCOL.md, Fronts and liveness)
abbrev pub front_at : Buffer → Head → ℕ
front_at buffer head = on_line buffer.blocks (buffer.first_cycle + head.run) head.used

-- what a group picks for an article: the buffer, by its place in the group, and whether the article
-- is the first of a run, and so goes to the front of one there
pub record Pick : Type 0 where
  pub index : ℕ
  pub fresh : Bool

-- Sequential: how many blocks a run has, which goes through these buffers in turn
abbrev pub room_of : List Buffer → ℕ → ℕ
room_of buffers run = blocks_of (slice_get buffers (run % length buffers))

-- Sequential, for an article that goes from this head to this place: the buffer of the place's run,
-- fresh where that is a later run than the head's
abbrev pub pick_of_run : (m : ℕ) → (head at : Head) → Pick
pick_of_run m head at = record { index = at.run % m; fresh = nat_lt head.run at.run }

-- what the mode picks for the next article, after these sizes were begun: Interleave the next
-- buffer in turn, Sequential the one of the run that the article goes to
-- (docs/PROTOCOL.md, Groups and writers)
abbrev pub pick_by : Mode → List Buffer → List ℕ → ℕ → Pick
pick_by Interleave buffers begun size =
    record { index = length begun % length buffers; fresh = false }
pick_by Sequential buffers begun size =
    let head = head_after (room_of buffers) begun in
    pick_of_run (length buffers) head (place_in_runs (room_of buffers) head size)

-- what a group picks for its next article, after these sizes were begun
abbrev pub pick_of : Group → List ℕ → ℕ → Pick
pick_of group begun size = pick_by group.mode group.buffers begun size

-- an article of this size joins the begins of buffer i where it was picked
abbrev pub with_pick : Pick → (i size : ℕ) → List (ℕ × Bool) → List (ℕ × Bool)
with_pick pick i size begins =
    if pick.index == i then (size, pick.fresh) ∷ begins else begins

-- the begins of buffer i after these sizes, where it had these begins after the sizes before
abbrev pub begins_past : Group → (i : ℕ) → (before : List ℕ) → List (ℕ × Bool) → List ℕ
    → List (ℕ × Bool)
begins_past group i before begins [] = begins
begins_past group i before begins (size ∷ sizes) =
    begins_past group i (before ++ size ∷ [])
    (with_pick (pick_of group before size) i size begins) sizes

-- what a group that began these sizes put into its buffer i: each size that went there and whether
-- it was fresh, the newest first
abbrev pub begins_in : Group → (i : ℕ) → List ℕ → List (ℕ × Bool)
begins_in group i sizes = begins_past group i [] [] sizes

-- the place of a pick in its buffer, where the group has that buffer
abbrev pub placed_in : (begins : List (ℕ × Bool)) → (fresh : Bool) → (size : ℕ) → Option Buffer
    → Option Place
placed_in begins fresh size None = None
placed_in begins fresh size (Some buffer) =
    Some (place_in_buffer buffer
    (place_after buffer.blocks (head_of buffer.blocks begins) fresh size))

-- the place of a pick: in its own buffer, after what was begun there
abbrev pub place_of_pick : Group → List ℕ → Pick → ℕ → Option Place
place_of_pick group begun pick size =
    placed_in (begins_in group pick.index begun) pick.fresh size
    (slice_get group.buffers pick.index)
