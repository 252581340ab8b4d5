use Rattle.std.proofs.Common.{◌∙◌, ap, length, refl, sym}
use Rattle.block_shelf.proofs.NewBufferSet.{same_count}
use Rattle.block_shelf.specs.declared.starting.Unstarted.{Unstarted}
use Rattle.relay_live.proofs.Parts.{room_for}
use Rattle.relay_live.proofs.StartedRelay.{no_room_before}
use Rattle.relay_live.proofs.shared.Shared.start.Goals as goal

-- there is no room for locks
pub returns-in_default : goal.returns-in_default
returns-in_default g c =
    let told = c.refused in
    record {
      buffers = tt;
      groups = tt;
      feeds = tt;
      ends = tt;
      remember = tt;
      history = tt;
      started = tt;
      refused = no_room_before g.S.BlockStore c.args.config.now c.args.stopped.stores.items
          c.args.stopped.history.items told.result
          (ap (λ (u : Unstarted g.row.S.Denot). u.error) told.ensures)
          (ap (λ (u : Unstarted g.row.S.Denot). u.buffer) told.ensures)
          (ap (λ (u : Unstarted g.row.S.Denot). u.stores.items) told.ensures);
    }

-- there is room for as many locks
pub over-requires : goal.over-requires
over-requires g c =
    let started = c.in-Ok-start_with.ensures.started in
    room_for c.in-Ok.locks.rooms _ _ _ _ c.in-Ok.ensures.rooms
    (started.opened.count ∙ started.from_stores.over.count
    ∙ sym (c.len.ensures ∙ c.args.stopped.stores.ok.0))
    (started.placed_group_count
    ∙ sym (c.len-groups.ensures ∙ c.args.config.now.buffers.groups.ok.0))

-- a buffer for each store, and so for each of the configuration; it goes on from the stop of its
-- history
pub returns-in-Ok-start_with : goal.returns-in-Ok-start_with
returns-in-Ok-start_with g c =
    let is = c.over.ensures in
    let started = c.in-Ok-start_with.ensures.started in
    record {
      buffers = is.buffers ∙ started.opened.count ∙ started.from_stores.over.count
          ∙ same_count g.S.BlockStore c.args.config.now.buffers c.args.stopped.stores.items
          c.requires.stores;
      groups = is.groups ∙ started.placed_group_count;
      feeds = is.feeds ∙ started.feed_count;
      ends = is.ends ∙ c.in-Ok.ensures.ends_is;
      remember = is.remembers ∙ started.remembers;
      history = record {
        history = started.history;
        reads = started.reads;
        stop_is = is.stop_is ∙ started.stop_is;
      };
      started = record {
        alone = c.in-Ok-start_with.alone;
        slots = length c.in-Ok.locks.slots.items;
        parts = is;
        starts = started;
      };
      refused = tt;
    }

-- the host has no seed, and the stores come back
pub returns-in-Err : goal.returns-in-Err
returns-in-Err g c =
    record {
      buffers = tt;
      groups = tt;
      feeds = tt;
      ends = tt;
      remember = tt;
      history = tt;
      started = tt;
      refused = refl;
    }

pub returns-in-Err-start_with : goal.returns-in-Err-start_with
returns-in-Err-start_with g c =
    record {
      buffers = tt;
      groups = tt;
      feeds = tt;
      ends = tt;
      remember = tt;
      history = tt;
      started = tt;
      refused = c.in-Err-start_with.ensures.refused;
    }
