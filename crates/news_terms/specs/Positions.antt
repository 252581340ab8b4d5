-- All that a group has to keep to pick: a position, in place of the list of sizes begun
-- (docs/PROTOCOL.md, Groups and writers).
use Rattle.std.specs.Prelude.{ℕ, ◌+◌, ◌%◌, ◌==◌, nat_le, true, false, List, length, slice_get}
use Rattle.std.specs.Prelude.{if◌then◌else◌}
use Rattle.news_terms.specs.Picks.{Pick, room_of}
use Rattle.news_terms.specs.Places.{Buffer, Group, Mode, Interleave, Sequential, head_after}
use Rattle.news_terms.specs.Places.{blocks_of}

-- where a group is: at one of its buffers, by its place in the group, with the blocks used of its
-- run
pub record Position : Type 0 where
  pub index : ℕ
  pub used : ℕ

-- after these sizes: Interleave at the buffer whose turn it is, Sequential at the buffer of the
-- current run
abbrev pub position_by : Mode → List Buffer → List ℕ → Position
position_by Interleave buffers begun =
    record { index = length begun % length buffers; used = 0 }
position_by Sequential buffers begun =
    let head = head_after (room_of buffers) begun in
    record { index = head.run % length buffers; used = head.used }

-- where a group is after these sizes
abbrev pub position_of : Group → List ℕ → Position
position_of group begun = position_by group.mode group.buffers begun

-- the buffer after this one of m, which is the first one after the last
abbrev pub index_after : (m index : ℕ) → ℕ
index_after m index = if index + 1 == m then 0 else index + 1

-- what a group picks by its position: Interleave the buffer there, Sequential too where the article
-- fits its run, else the one after it, fresh
abbrev pub pick_at : Mode → List Buffer → Position → (size : ℕ) → Pick
pick_at Interleave buffers at size = record { index = at.index; fresh = false }
pick_at Sequential buffers at size =
    if nat_le (at.used + size) (blocks_of (slice_get buffers at.index))
    then record { index = at.index; fresh = false }
    else record { index = index_after (length buffers) at.index; fresh = true }

-- the position after an article of this size went where it was picked
abbrev pub position_past : Mode → List Buffer → Position → Pick → (size : ℕ) → Position
position_past Interleave buffers at pick size =
    record { index = index_after (length buffers) at.index; used = 0 }
position_past Sequential buffers at pick size =
    record { index = pick.index; used = if pick.fresh then size else at.used + size }
