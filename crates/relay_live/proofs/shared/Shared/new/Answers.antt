use Rattle.std.proofs.Common.{◌∙◌, length, sym}
use Rattle.block_shelf.proofs.HostFaults.{host_refuses}
use Rattle.block_shelf.proofs.NewBufferSet.{same_count}
use Rattle.std.proofs.lemmas.Result.{IfOk-from_err}
use Rattle.relay_live.proofs.Parts.{room_for}
use Rattle.relay_live.proofs.shared.Shared.new.Goals as goal

-- there is room for as many locks
pub over-requires : goal.over-requires
over-requires g c =
    let begins = c.in-Ok.ensures.begins in
    room_for c.in_ok-locks.locks.rooms _ _ _ _ c.in_ok-locks.ensures.rooms
    (begins.buffers.count ∙ sym (c.len.ensures ∙ c.args.stores.ok.0))
    (begins.placed_group_count
    ∙ sym (c.len-2.ensures ∙ c.args.config.now.buffers.groups.ok.0))

-- a buffer for each store, and so for each of the configuration
pub returns-in-Ok : goal.returns-in-Ok
returns-in-Ok g c =
    let is = c.over.ensures in
    let begins = c.in-Ok.ensures.begins in
    record {
      buffers = is.buffers ∙ begins.buffers.count
          ∙ same_count g.S.BlockStore c.args.config.now.buffers c.args.stores.items
          c.requires.stores;
      groups = is.groups ∙ begins.placed_group_count;
      feeds = is.feeds ∙ begins.feed_count;
      ends = is.ends ∙ c.in_ok-locks.ensures.ends_is;
      remember = is.remembers ∙ begins.remembers;
      begins = record {
        alone = c.in-Ok.alone;
        slots = length c.in_ok-locks.locks.slots.items;
        parts = is;
        begins = begins;
      };
      refusal = tt;
    }

pub returns-in-Err : goal.returns-in-Err
returns-in-Err g c =
    record {
      buffers = tt;
      groups = tt;
      feeds = tt;
      ends = tt;
      remember = tt;
      begins = tt;
      refusal = c.in-Err.ensures.refusal;
    }

-- the host has no memory for it
pub returns-in_err-locks : goal.returns-in_err-locks
returns-in_err-locks g c =
    let told = c.from_residual in
    record {
      buffers = IfOk-from_err told.result _ told.ensures.0;
      groups = IfOk-from_err told.result _ told.ensures.0;
      feeds = IfOk-from_err told.result _ told.ensures.0;
      ends = IfOk-from_err told.result _ told.ensures.0;
      remember = IfOk-from_err told.result _ told.ensures.0;
      begins = IfOk-from_err told.result _ told.ensures.0;
      refusal = host_refuses g.S.BlockStore c.args.stores.items told.result told.ensures.1;
    }
