use Rattle.std.proofs.Common.{◌∙◌, List, None, ap, map, subst, sym}
use Rattle.block_shelf.proofs.NewBufferSet.{same_count}
use Rattle.block_shelf.specs.Each.{AreEach}
use Rattle.block_shelf.specs.Starting.{IsUnwritten}
use Rattle.block_shelf.specs.declared.starting.Unstarted.{Unstarted}
use Rattle.id_history.specs.Views.{history_view}
use Rattle.cyc_buffer.specs.Filled.{Filled, filled_view}
use Rattle.relay_core.specs.Ahead.{is_ahead}
use Rattle.cyc_buffer.specs.declared.filled.Filled as code
use Rattle.relay_live.proofs.OpenedBuffers.{not_opened}
use Rattle.relay_live.proofs.Rooms.{no_more}
use Rattle.relay_live.proofs.StartedBuffers.{started_stores}
use Rattle.relay_live.proofs.StartedRelay.{ahead_as, ahead_of, no_head, no_room, not_started}
use Rattle.relay_live.proofs.StartedRelay.{starts, unread_or_room}
use Rattle.relay_live.specs.Starting.{IsRefusedRightly, StartsOver}
use Rattle.relay_live.proofs.alone.Alone.start_with.Goals as goal

-- the text isn't read
pub returns-in-Err : goal.returns-in-Err
returns-in-Err g c =
    record {
      started = tt;
      refused = subst (λ text. IsRefusedRightly g.S.BlockStore c.args.config.now
          c.args.stopped.stores.items
          text c.refused.result)
          c.deref.ensures.value
          (unread_or_room g.S.BlockStore c.args.config.now c.args.stopped.stores.items
          c.deref.result.now c.refused.result c.in-Err.error
          (ap (λ (u : Unstarted g.row.S.Denot). u.error) c.refused.ensures ∙ c.unread.ensures)
          (ap (λ (u : Unstarted g.row.S.Denot). u.buffer) c.refused.ensures)
          (ap (λ (u : Unstarted g.row.S.Denot). u.stores.items) c.refused.ensures)
          c.in-Err.ensures.none);
    }

pub start_buffers-requires-clause-few : goal.start_buffers-requires-clause-few
start_buffers-requires-clause-few g c κs within =
    no_more _ _ _
    (same_count g.S.BlockStore c.args.config.now.buffers c.args.stopped.stores.items
    c.requires.stores)
    c.args.config.now.buffers.few_buffers

-- a buffer isn't started
pub returns-in-Err-start_buffers : goal.returns-in-Err-start_buffers
returns-in-Err-start_buffers g c =
    record {
      started = tt;
      refused = subst (λ text. IsRefusedRightly g.S.BlockStore c.args.config.now
          c.args.stopped.stores.items
          text c.in-Err-start_buffers.unstarted)
          c.deref.ensures.value
          (not_started g.S.BlockStore c.args.config.now c.args.stopped.stores.items
          c.requires.stores
          c.deref.result.now (history_view c.in-Ok.history) c.in-Ok.ensures.reads
          c.in-Ok.ensures.only c.one_head.ensures.one c.in-Err-start_buffers.unstarted
          c.in-Err-start_buffers.ensures.refusal);
    }

-- there is no memory to see how far they are filled
pub returns-in-Err-all_filled : goal.returns-in-Err-all_filled
returns-in-Err-all_filled g c =
    record {
      started = tt;
      refused = no_room g.S.BlockStore c.args.config.now c.args.stopped.stores.items
          c.args.stopped.history.items c.refused-in-Err-all_filled.result
          (ap (λ (u : Unstarted g.row.S.Denot). u.error) c.refused-in-Err-all_filled.ensures)
          (ap (λ (u : Unstarted g.row.S.Denot). u.buffer) c.refused-in-Err-all_filled.ensures)
          (subst (AreEach (IsUnwritten g.S.BlockStore None) c.args.stopped.stores.items)
          (sym (ap (λ (u : Unstarted g.row.S.Denot). u.stores.items)
          c.refused-in-Err-all_filled.ensures
          ∙ c.into_stores.ensures))
          (started_stores c.args.stopped.stores.items c.in-Ok-start_buffers.started.buffers.items
          c.in-Ok-start_buffers.ensures.started.over));
    }

-- the history is ahead
pub returns-then-is_ahead : goal.returns-then-is_ahead
returns-then-is_ahead g c =
    record {
      started = tt;
      refused = let config = c.args.config.now in
          let kept = history_view c.in-Ok.history in
          let buffers = c.in-Ok-start_buffers.started.buffers.items in
          let are = c.in-Ok-start_buffers.ensures.started in
          subst (λ text. IsRefusedRightly g.S.BlockStore config c.args.stopped.stores.items text
          c.refused-then-is_ahead.result)
          c.deref.ensures.value
          (ahead_of g.S.BlockStore config c.args.stopped.stores.items c.requires.stores
          c.deref.result.now kept c.in-Ok.ensures.reads c.in-Ok.ensures.only c.one_head.ensures.one
          c.refused-then-is_ahead.result buffers are
          (ahead_as config c.args.stopped.stores.items c.requires.stores c.deref.result.now kept
          c.in-Ok.ensures.reads c.in-Ok.ensures.only buffers are _
          (ap (λ (fs : List Filled). is_ahead fs kept) (sym c.in-Ok-all_filled.ensures)
          ∙ ap (λ (fs : List code.Filled). is_ahead (map filled_view fs) kept)
          (sym c.deref-2.ensures.value)
          ∙ sym c.is_ahead.ensures ∙ c.if-is_ahead.true))
          (ap (λ (u : Unstarted g.row.S.Denot). u.error) c.refused-then-is_ahead.ensures)
          (ap (λ (u : Unstarted g.row.S.Denot). u.buffer) c.refused-then-is_ahead.ensures)
          (subst (AreEach (IsUnwritten g.S.BlockStore None) c.args.stopped.stores.items)
          (sym (ap (λ (u : Unstarted g.row.S.Denot). u.stores.items) c.refused-then-is_ahead.ensures
          ∙ c.into_stores-then-is_ahead.ensures))
          (started_stores c.args.stopped.stores.items buffers are.over)));
    }

pub resume-requires-clause-holds : goal.resume-requires-clause-holds
resume-requires-clause-holds g c = c.in-Ok.ensures.reads.holds

-- the relay began with this history
pub resume-requires-clause-began : goal.resume-requires-clause-began
resume-requires-clause-began g c =
    c.requires.posts.1 ∙ sym c.deref.ensures.value ∙ c.in-Ok.ensures.reads.text_is

pub resume-requires-clause-fits : goal.resume-requires-clause-fits
resume-requires-clause-fits g c = c.in-Ok.ensures.reads.fits

-- there is no memory for what is made of it
pub returns-in-Err-resume : goal.returns-in-Err-resume
returns-in-Err-resume g c =
    record {
      started = tt;
      refused = no_room g.S.BlockStore c.args.config.now c.args.stopped.stores.items
          c.args.stopped.history.items c.refused-in-Err-resume.result
          (ap (λ (u : Unstarted g.row.S.Denot). u.error) c.refused-in-Err-resume.ensures)
          (ap (λ (u : Unstarted g.row.S.Denot). u.buffer) c.refused-in-Err-resume.ensures)
          (subst (AreEach (IsUnwritten g.S.BlockStore None) c.args.stopped.stores.items)
          (sym (ap (λ (u : Unstarted g.row.S.Denot). u.stores.items) c.refused-in-Err-resume.ensures
          ∙ c.into_stores-in-Err-resume.ensures))
          (started_stores c.args.stopped.stores.items c.in-Ok-start_buffers.started.buffers.items
          c.in-Ok-start_buffers.ensures.started.over));
    }

-- a head isn't opened
pub returns : goal.returns
returns g c =
    record {
      started = tt;
      refused = let config = c.args.config.now in
          let kept = history_view c.in-Ok.history in
          let buffers = c.in-Ok-start_buffers.started.buffers.items in
          let are = c.in-Ok-start_buffers.ensures.started in
          subst (λ text. IsRefusedRightly g.S.BlockStore config c.args.stopped.stores.items text
          c.in-Err-over.unstarted)
          c.deref.ensures.value
          (no_head g.S.BlockStore config c.args.stopped.stores.items c.requires.stores
          c.deref.result.now kept c.in-Ok.ensures.reads c.in-Ok.ensures.only c.one_head.ensures.one
          c.in-Err-over.unstarted buffers are
          (ahead_as config c.args.stopped.stores.items c.requires.stores c.deref.result.now kept
          c.in-Ok.ensures.reads c.in-Ok.ensures.only buffers are _
          (ap (λ (fs : List Filled). is_ahead fs kept) (sym c.in-Ok-all_filled.ensures)
          ∙ ap (λ (fs : List code.Filled). is_ahead (map filled_view fs) kept)
          (sym c.deref-2.ensures.value)
          ∙ sym c.is_ahead.ensures ∙ c.if-is_ahead.false))
          (not_opened c.args.stopped.stores.items kept.stop buffers c.in-Err-over.unstarted are
          c.in-Err-over.ensures.refusal));
    }

-- the parts start
pub returns-in-Ok-over : goal.returns-in-Ok-over
returns-in-Ok-over g c =
    record {
      started = let config = c.args.config.now in
          let kept = history_view c.in-Ok.history in
          let buffers = c.in-Ok-start_buffers.started.buffers.items in
          let are = c.in-Ok-start_buffers.ensures.started in
          let is = c.in-Ok-over.ensures in
          subst (λ text. StartsOver config c.args.stopped.stores.items text c.in-Ok-over.alone)
          c.deref.ensures.value
          (starts config c.args.stopped.stores.items c.requires.stores c.deref.result.now kept
          c.in-Ok.ensures.reads c.in-Ok.ensures.only buffers are c.in-Ok-over.alone
          c.in-Ok-resume.desks
          (ahead_as config c.args.stopped.stores.items c.requires.stores c.deref.result.now kept
          c.in-Ok.ensures.reads c.in-Ok.ensures.only buffers are _
          (ap (λ (fs : List Filled). is_ahead fs kept) (sym c.in-Ok-all_filled.ensures)
          ∙ ap (λ (fs : List code.Filled). is_ahead (map filled_view fs) kept)
          (sym c.deref-2.ensures.value)
          ∙ sym c.is_ahead.ensures ∙ c.if-is_ahead.false))
          c.in-Ok-resume.ensures is.opened is.desks.0 is.desks.1 is.desks.2 is.desks.3 is.stop
          is.settings.0 is.settings.1);
      refused = tt;
    }

pub over-requires : goal.over-requires
over-requires g c = record {
  few = no_more _ _ _ c.in-Ok-resume.ensures.placed_group_count
      c.args.config.now.buffers.few_groups;
  rings = c.requires.rings;
}
