-- The parts of a relay go out of their locks and behind them again.
use Rattle.std.proofs.Common.{◌≡◌, ◌∙◌, ◌<◌, ℕ, List, length, subst, sym}
use Rattle.std.proofs.lemmas.List.{length-map}
use Rattle.cyc_block.specs.declared.store.BlockStore as blocks
use Rattle.live_store.specs.Steps.{buffer_of}
use Rattle.live_store.specs.declared.record.StorePremises as store_premises
use Rattle.relay_live.specs.Locking.{HasLockRoom}
use Rattle.relay_live.specs.Making.{HasParts, buffers_in, groups_in}
use Rattle.relay_live.specs.Stopping.{CameOut, HasAsMany, IsShutPartly}
use Rattle.relay_live.specs.declared.alone.Alone.{Alone}
use Rattle.relay_live.specs.declared.locking.LockRoom.{LockRoom}
use Rattle.relay_live.specs.declared.shared.Shared.{Shared}
use Rattle.post_history.specs.declared.book.Naming as naming

module _ {S J : Type 0} {s : blocks.Ghosts S}
    {j : store_premises.Ghosts J} {n : naming.Ghosts J} where
  -- there is room for the locks of as many
  pub room_for : (rooms : LockRoom S J s j n) (n n' m m' : ℕ) → HasLockRoom n m rooms → n' ≡ n
      → m' ≡ m → HasLockRoom n' m' rooms
  room_for rooms n n' m m' room buffers groups =
      subst (λ (x : ℕ × ℕ). HasLockRoom x.0 x.1 rooms) (λ i. (sym buffers i, sym groups i)) room

module _ {S J L : Type 0} {s : blocks.Ghosts S} {j : store_premises.Ghosts J} {n : naming.Ghosts J}
    (old : Shared S J L s j n) (alone back : Alone S J L s j n) (slots : ℕ)
    (was : HasParts old alone slots)
    (same : back ≡ alone)
  where
    -- parts that came back as they were are as many behind their locks as before
    pub as_many : (new : Shared S J L s j n) → HasParts new back slots → HasAsMany old new
    as_many new now =
        let is = subst (λ parts. HasParts new parts slots) same now in
        record {
          buffers = is.buffers ∙ sym was.buffers;
          groups = is.groups ∙ sym was.groups;
          feeds = is.feeds ∙ sym was.feeds;
          ends = is.ends ∙ sym was.ends;
          remembers = is.remembers ∙ sym was.remembers;
        }

    -- and there is room for them in what had room for the locks
    pub room_again : (rooms kept : LockRoom S J s j n) → kept ≡ rooms
        → HasLockRoom (buffers_in old) (groups_in old) rooms
        → HasLockRoom (length back.buffers.items) (length back.placed_groups.items) kept
    room_again rooms kept is room =
        subst (λ (parts : Alone S J L s j n).
        HasLockRoom (length parts.buffers.items) (length parts.placed_groups.items) kept) (sym same)
        (subst (HasLockRoom (length alone.buffers.items) (length alone.placed_groups.items))
        (sym is)
        (subst (λ (n : ℕ × ℕ). HasLockRoom n.0 n.1 rooms)
        (λ i. (was.buffers i, was.groups i)) room))

module _ {S J L : Type 0} {s : blocks.Ghosts S} {j : store_premises.Ghosts J} {n : naming.Ghosts J}
    (old : Shared S J L s j n) (alone : Alone S J L s j n) (slots : ℕ)
    (was : HasParts old alone slots)
  where
    -- parts that are as many came out of the locks
    pub came_out : CameOut old alone
    came_out = record {
      buffers = sym was.buffers;
      groups = sym was.groups;
      feeds = sym was.feeds;
      stop_is = sym was.stop_is;
    }

    -- the device that failed is one of its buffers', and there is a store of each
    pub failed_within : (number : ℕ) (stores : List S) → IsShutPartly alone number stores
        → (number < buffers_in old) × (length stores ≡ buffers_in old)
    failed_within number stores partly = (
      subst (λ (x : ℕ × ℕ). x.0 < x.1) (λ i. (sym partly.told i, sym was.buffers i)) partly.within,
      partly.left.count ∙ length-map alone.buffers.items buffer_of ∙ sym was.buffers,
    )
