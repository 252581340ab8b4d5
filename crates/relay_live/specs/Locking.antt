-- Room for the parts of a relay, with their locks and without.
use Rattle.std.specs.Prelude.{◌≡◌, ◌≤◌, ℕ, [], length, vec_capacity}
use Rattle.cyc_block.specs.declared.store.BlockStore as blocks
use Rattle.live_store.specs.declared.record.StorePremises as store_premises
use Rattle.relay_live.specs.BufferLocks.{HasRoomFor}
use Rattle.relay_live.specs.declared.locking.FreeRoom.{FreeRoom}
use Rattle.relay_live.specs.declared.locking.LockRoom.{LockRoom}
use Rattle.relay_live.specs.declared.locking.Locks.{Locks}
use Rattle.relay_live.specs.declared.locking.Room.{Room}
use Rattle.relay_model.specs.Terms.{shard_count}
use Rattle.post_history.specs.declared.book.Naming as naming

-- there is room for sixteen shards, and for so many buffers and groups
pub record HasRoom {A B C : Type 0} (buffers placed_groups : ℕ) (rooms : Room A B C)
    : Type 0 where
  pub no_shards : rooms.shards.items ≡ []
  pub no_buffers : rooms.buffers.items ≡ []
  pub no_placed_groups : rooms.placed_groups.items ≡ []
  pub shards_room : shard_count ≤ vec_capacity rooms.shards
  pub buffers_room : buffers ≤ vec_capacity rooms.buffers
  pub placed_groups_room : placed_groups ≤ vec_capacity rooms.placed_groups

-- there is room for the locks of sixteen shards, and of so many buffers and groups
pub record HasLockRoom {S J : Type 0} {s : blocks.Ghosts S}
    {j : store_premises.Ghosts J} {n : naming.Ghosts J}
    (buffers placed_groups : ℕ) (room : LockRoom S J s j n)
    : Type 0 where
  pub no_shards : room.shards.items ≡ []
  pub no_placed_groups : room.placed_groups.items ≡ []
  pub shards_room : shard_count ≤ vec_capacity room.shards
  pub buffers_room : HasRoomFor buffers room.buffers
  pub placed_groups_room : placed_groups ≤ vec_capacity room.placed_groups

-- there is room for as many once they come out
pub record HasFreeRoom {S J : Type 0} {s : blocks.Ghosts S}
    {j : store_premises.Ghosts J} {n : naming.Ghosts J}
    (buffers placed_groups : ℕ) (room : FreeRoom S J s j n)
    : Type 0 where
  pub freed : HasRoom buffers placed_groups room.freed
  pub parts : HasRoom buffers placed_groups room.parts

-- there is room for the locks of so many buffers and groups, and a slot for each of so many ends
pub record HasLocks {S J : Type 0} {s : blocks.Ghosts S}
    {j : store_premises.Ghosts J} {n : naming.Ghosts J}
    (buffers placed_groups ends : ℕ) (locks : Locks S J s j n)
    : Type 0 where
  pub rooms : HasLockRoom buffers placed_groups locks.rooms
  pub ends_is : length locks.slots.items ≡ ends
