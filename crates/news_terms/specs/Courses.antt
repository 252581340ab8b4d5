-- What a group began, each article with its place, and where the next one goes: after what its
-- buffer tells of itself, its newest article (the principle of INN's CNFS; docs/PROTOCOL.md,
-- Store). Without a crash that is what follows from the sizes that were ever begun. After a crash
-- nobody knows those sizes, and a course goes on from the fronts that the devices tell.
use Rattle.std.specs.Prelude.{ℕ, ◌+◌, ◌<◌, ◌≤◌, ◌==◌, ◌&&◌, nat_lt, nat_le, Bool, List, [], ◌∷◌}
use Rattle.std.specs.Prelude.{◌++◌, length, All, fold, slice_get, Option, None, Some, if◌then◌else◌}
use Rattle.news_terms.specs.Fronts.{EndsInBuffer, IsAmongBuffers}
use Rattle.news_terms.specs.Picks.{Pick, head_of, place_after}
use Rattle.news_terms.specs.Places.{Buffer, Group, Mode, Interleave, Sequential, Place, Extent}
use Rattle.news_terms.specs.Places.{front_after, on_line, place_in_buffer}
use Rattle.news_terms.specs.Positions.{Position, pick_at, position_past}

-- where a buffer is: the cycle of the newest article begun in it, and the blocks used of that cycle
pub record At : Type 0 where
  pub cycle : ℕ
  pub used : ℕ

-- where a buffer is before anything was begun in it: at the front of its first cycle
abbrev pub first_at : Buffer → At
first_at buffer = record { cycle = buffer.first_cycle; used = 0 }

-- where a buffer is after one more article: after its last block, where it is in this buffer
abbrev pub at_past : Buffer → At → Extent → At
at_past buffer at one =
    if one.place.buffer.number == buffer.number
    then record { cycle = one.place.cycle; used = one.place.first + one.size } else at

-- where a buffer is after these articles, in order
abbrev pub at_after : Buffer → List Extent → At
at_after buffer articles = fold (at_past buffer) (first_at buffer) articles

-- where an article goes in a buffer that is here: after the blocks used, where it fits the rest of
-- the cycle, else at the front of the next one; a fresh one at the front of a cycle, which is the
-- next one where some of this is used
abbrev pub placed_at : Buffer → At → (fresh : Bool) → (size : ℕ) → Place
placed_at buffer at fresh size =
    if fresh && nat_lt 0 at.used then record { buffer = buffer; cycle = at.cycle + 1; first = 0 }
    else (if nat_le (at.used + size) buffer.blocks
    then record { buffer = buffer; cycle = at.cycle; first = at.used }
    else record { buffer = buffer; cycle = at.cycle + 1; first = 0 })

-- what a group began, in order, each with its place; and the buffer whose turn it is, by its place
-- in the group
pub record Course : Type 0 where
  pub turn : ℕ
  pub articles : List Extent

-- the course of a group that began nothing
abbrev pub first_course : Course
first_course = record { turn = 0; articles = [] }

-- how much of its run is used of the buffer whose turn it is: Interleave has no runs, Sequential
-- fills the cycle of that buffer
abbrev pub run_used : Mode → Option Buffer → List Extent → ℕ
run_used Interleave buffer articles = 0
run_used Sequential None articles = 0
run_used Sequential (Some buffer) articles = (at_after buffer articles).used

-- where a group on this course is
abbrev pub position_in : Group → Course → Position
position_in group course =
    record {
      index = course.turn;
      used = run_used group.mode (slice_get group.buffers course.turn) course.articles;
    }

-- what a group on this course picks for its next article
abbrev pub pick_in : Group → Course → (size : ℕ) → Pick
pick_in group course size = pick_at group.mode group.buffers (position_in group course) size

-- the place of a pick in its buffer, where the group has that buffer
abbrev pub place_in : Option Buffer → List Extent → (fresh : Bool) → (size : ℕ) → Option Place
place_in None articles fresh size = None
place_in (Some buffer) articles fresh size =
    Some (placed_at buffer (at_after buffer articles) fresh size)

-- the place of the next article of a group on this course
abbrev pub place_next : Group → Course → (size : ℕ) → Option Place
place_next group course size =
    let pick = pick_in group course size in
    place_in (slice_get group.buffers pick.index) course.articles pick.fresh size

-- the course once an article was begun at this place; where it has none nothing was
abbrev pub course_past : Group → Course → (size : ℕ) → Option Place → Course
course_past group course size None = course
course_past group course size (Some place) =
    record {
      turn =
          (position_past group.mode group.buffers (position_in group course)
          (pick_in group course size) size).index;
      articles = course.articles ++ record { place = place; size = size } ∷ [];
    }

-- the course once one more article was begun
abbrev pub course_next : Group → Course → (size : ℕ) → Course
course_next group course size = course_past group course size (place_next group course size)

-- the article lies in this buffer
abbrev pub is_in_buffer : Buffer → Extent → Bool
is_in_buffer buffer one = one.place.buffer.number == buffer.number

-- the articles of these begins of a buffer, each its size and whether it was fresh, the newest
-- first; in the order in which they were begun
abbrev pub articles_of : Buffer → List (ℕ × Bool) → List Extent
articles_of buffer [] = []
articles_of buffer (begin ∷ earlier) =
    articles_of buffer earlier ++ record {
      place = place_in_buffer buffer
          (place_after buffer.blocks (head_of buffer.blocks earlier) begin.1 begin.0);
      size = begin.0;
    } ∷ []

-- the course of a group that began articles of these sizes, and nothing before
abbrev pub course_of : Group → List ℕ → Course
course_of group sizes = fold (course_next group) first_course sizes

-- each of these articles lies at the front of its buffer, after those before it, or past it
abbrev pub LieInOrder : (before articles : List Extent) → Type 0
LieInOrder before [] = Unit {0}
LieInOrder before (one ∷ later) =
    (front_after one.place.buffer before
    ≤ on_line one.place.buffer.blocks one.place.cycle one.place.first)
    × LieInOrder (before ++ one ∷ []) later

-- an article lies in one of the group's buffers, and ends in it
pub record LiesInGroup (group : Group) (one : Extent) : Type 0 where
  pub among : IsAmongBuffers group one.place
  pub ends : EndsInBuffer one.place one.size

-- a course that a group can have come: it is the turn of one of its buffers, where it has any, and
-- each article lies in one of them, at its front or past it
pub record IsLaid (group : Group) (course : Course) : Type 0 where
  pub turn : 0 < length group.buffers → course.turn < length group.buffers
  pub within : All (LiesInGroup group) course.articles
  pub order : LieInOrder [] course.articles
