-- Buffers that were found again aren't shut, and what that leaves.
use Rattle.std.proofs.Common.{◌≡◌, ◌∙◌, ℕ, ◌<◌, List, length, sym, subst}
use Rattle.std.proofs.Common.{arith}
use Rattle.std.proofs.lemmas.Option.{none-some, slice_get_within}
use Rattle.block_shelf.proofs.EachLemmas.{each_mapped}
use Rattle.block_shelf.specs.Each.{AreEach}
use Rattle.block_shelf.specs.declared.starting.Unstarted.{Unstarted}
use Rattle.buffer_repair.specs.Finding.{stores_in}
use Rattle.buffer_repair.specs.Parts.{store_in}
use Rattle.buffer_repair.specs.Shutting.{AreShutFound, IsUnshutFound}
use Rattle.buffer_repair.specs.declared.found_set.FoundBufferSet.{FoundBufferSet}
use Rattle.cyc_block.specs.declared.store.BlockStore.{Ghosts}
use Rattle.cyc_buffer.specs.Head.{LeavesBlocks}
use Rattle.cyc_buffer.specs.Reads.{StaysHeld}
use Rattle.cyc_buffer.specs.declared.starting.Started.{Started}
use Rattle.found_texts.specs.Held.{AreHeld, FailsAt, IsHeld, IsReadFault, IsUnfailed, NoneFailed}
use Rattle.found_texts.specs.declared.fault.ReadFault.{ReadFault}
use Rattle.found_texts.specs.declared.fault.ReadFault.TheVariants as reads
use Rattle.relay_repair.proofs.EachStore.{each_both, each_made, each_over, same_numbers}
use Rattle.relay_repair.specs.Refusing.{FailedFrom, IsLeftFrom, IsToldAs, IsUnshutFrom}
use Rattle.relay_repair.specs.Refusing.{IsUnwrittenFrom, NoRoomFrom}
use Rattle.relay_repair.specs.Repairing.{counts_of}

-- what stays held keeps its blocks
pub held_blocks : {S : Type 0} {g : Ghosts S} (old new : S) → StaysHeld g old new
    → LeavesBlocks g old new
held_blocks old new held = record {
  honest = held.honest;
  blocks = held.blocks;
  count = held.count;
}

-- so it does through one call more
pub blocks_on : {S : Type 0} {g : Ghosts S} (old mid new : S) → LeavesBlocks g old mid
    → LeavesBlocks g mid new → LeavesBlocks g old new
blocks_on old mid new first second = record {
  honest = λ is. second.honest (first.honest is);
  blocks = λ is. second.blocks (first.honest is) ∙ first.blocks is;
  count = second.count ∙ first.count;
}

module _ {S : Type 0} {g : Ghosts S} (before after : FoundBufferSet S g)
    (held : AreHeld before after) where
  -- as many blocks are in each store that is shut
  pub counted : (stop : ℕ) (stores : List S) → AreShutFound stop after stores
      → counts_of g stores ≡ counts_of g (stores_in before)
  counted stop stores shut =
      same_numbers (λ (store : S). length (g.blocks store)) (λ (store : S). length (g.blocks store))
      (each_made {Q = λ b old new. length (g.blocks new) ≡ length (g.blocks old)}
      (λ (one : Started S g). store_in one)
      (each_over {R = λ b one store.
      length (g.blocks store) ≡ length (g.blocks (store_in one))} held shut
      (λ b one now store first second. second.rest.count ∙ first.store.count))
      (λ b one store same. same))
      (λ b old new same. same)

  -- where the device of a buffer failed while they were shut
  pub unshut : (stop : ℕ) (refused : Unstarted S) → NoneFailed before after
      → IsUnshutFound stop after refused → IsUnshutFrom before refused
  unshut stop refused none is =
      FailedFrom is.place (omega (arith, is.within, held.count)) is.device is.told
      (each_over {R = IsLeftFrom is.place} both is.each
      (λ b one now store first second. record {
        rest =
            blocks_on (store_in one) (store_in now) store
            (held_blocks (store_in one) (store_in now) first.0.store) second.rest;
        failed = λ here.
            subst (λ failures. failures < g.failures store) first.1.same (second.failed here);
      }))
    where
      both : AreEach (λ b one now. IsHeld b one now × IsUnfailed b one now) before.found.items
          after.found.items
      both = each_both held none

  -- where the texts weren't read
  pub unread : (fault : ReadFault) (refused : Unstarted S) → IsReadFault before fault after
      → refused.stores.items ≡ stores_in after → IsToldAs fault refused.error refused.buffer
      → IsUnshutFrom before refused
  unread reads.Memory refused none stores told =
      NoRoomFrom told.0 told.1
      (subst (λ back. AreEach IsUnwrittenFrom before.found.items back) (sym stores)
      (each_mapped (λ b one now. IsHeld b one now × IsUnfailed b one now) IsUnwrittenFrom
      (λ (one : Started S g). store_in one) before.found.items after.found.items
      (each_both held none)
      (λ b one now is both. record {
        held = both.0.store;
        failed_here = λ here. absurd (none-some b here);
        no_failure = λ other. both.1.same;
      })))
  unread (reads.Device number) refused failed stores told =
      FailedFrom number (slice_get_within before.found.items number failed.one failed.there) told.0
      told.1
      (subst (λ back. AreEach (IsLeftFrom number) before.found.items back) (sym stores)
      (each_mapped (λ b one now. IsHeld b one now × FailsAt number b one now) (IsLeftFrom number)
      (λ (one : Started S g). store_in one) before.found.items after.found.items
      (each_both held failed.each)
      (λ b one now is both. record {
        rest = held_blocks (store_in one) (store_in now) both.0.store;
        failed = both.1.here;
      })))
