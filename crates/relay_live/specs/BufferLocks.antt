-- The buffers of a relay behind their locks, by their numbers (docs/PROTOCOL.md, Threads).
use Rattle.std.specs.Prelude.{◌≡◌, ◌≤◌, ℕ, List, [], length, vec_capacity}
use Rattle.std.specs.Vec.Iter.{into_iter_items}
use Rattle.cyc_block.specs.declared.store.BlockStore as blocks
use Rattle.live_store.specs.declared.record.StorePremises as store_premises
use Rattle.relay_live.specs.declared.buffer_locks.BufferLocks.{BufferLocks}
use Rattle.relay_live.specs.declared.buffer_locks.LocksLeft.{LocksLeft}

module _ {S J : Type 0} {s : blocks.Ghosts S} {j : store_premises.Ghosts J} where
  -- the numbers of the locks, in the order of the row
  abbrev pub numbers_in : BufferLocks S J s j → List ℕ
  numbers_in row = row.numbers.items

  -- how many locks there are
  abbrev pub count_in : BufferLocks S J s j → ℕ
  count_in row = length (numbers_in row)

  -- for how many locks there is room
  abbrev pub lock_room : BufferLocks S J s j → ℕ
  lock_room row = vec_capacity row.locks

  -- and for how many numbers
  abbrev pub number_room : BufferLocks S J s j → ℕ
  number_room row = vec_capacity row.numbers

  -- no lock is there, and there is room for so many with their numbers
  pub record HasRoomFor (count : ℕ) (row : BufferLocks S J s j) : Type 0 where
    pub none : numbers_in row ≡ []
    pub locks : count ≤ lock_room row
    pub numbers : count ≤ number_room row

  -- the numbers of the locks that haven't come out yet
  abbrev pub numbers_left : LocksLeft S J s j → List ℕ
  numbers_left left = into_iter_items left.numbers
