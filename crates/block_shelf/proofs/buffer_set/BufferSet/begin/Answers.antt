use Rattle.std.proofs.Common.{ap, refl}
use Rattle.block_shelf.proofs.BegunBufferSet.{group_found, has_buffer, has_place, is_begun}
use Rattle.block_shelf.proofs.BegunBufferSet.{keeps_all, keeps_placed_group, not_begun}
use Rattle.block_shelf.proofs.Shelving.{calls_same, read_there}
use Rattle.block_shelf.proofs.buffer_set.BufferSet.begin.Goals as goal

pub returns-in_err-placed_group : goal.returns-in_err-placed_group
returns-in_err-placed_group g c = record {
  begun = λ trusted w begun kept openings failures keeps can.
      absurd (group_found keeps c.args.class c.args.length can c.from.ensures
      c.in_err-placed_group.ensures.item.0);
  refused = rw c.from_residual.ensures
      (λ trusted w begun kept openings failures keeps. keeps);
  calls = λ number. refl;
}

pub returns-in_err-pick : goal.returns-in_err-pick
returns-in_err-pick g c = record {
  begun = λ trusted w begun kept openings failures keeps can.
      absurd (has_place keeps c.args.class c.args.length can c.from.ensures
      (read_there c.args.self.now.placed_groups.items c.from.result
      c.in_ok-placed_group.ensures.item) c.in_err-pick.ensures);
  refused =
      rw c.from_residual-in_err-pick.ensures
      (keeps_placed_group c.args.self.now c.from.result
      (read_there c.args.self.now.placed_groups.items c.from.result
      c.in_ok-placed_group.ensures.item));
  calls = λ number. refl;
}

pub returns-in_err-buffer : goal.returns-in_err-buffer
returns-in_err-buffer g c = record {
  begun = λ trusted w begun kept openings failures keeps can.
      absurd (has_buffer keeps c.args.class c.args.length can c.from.ensures
      (read_there c.args.self.now.placed_groups.items c.from.result
      c.in_ok-placed_group.ensures.item)
      c.in_ok-pick.ensures
      c.in_err-buffer.ensures.item.0);
  refused =
      rw c.from_residual-in_err-buffer.ensures
      (keeps_placed_group c.args.self.now c.from.result
      (read_there c.args.self.now.placed_groups.items c.from.result
      c.in_ok-placed_group.ensures.item));
  calls = λ number. refl;
}

pub returns-in_default : goal.returns-in_default
returns-in_default g c = record {
  begun = λ trusted w begun kept openings failures keeps can.
      not_begun keeps c.args.class c.args.length can c.from.ensures
      (read_there c.args.self.now.placed_groups.items c.from.result
      c.in_ok-placed_group.ensures.item)
      c.in_ok-pick.ensures
      (read_there c.args.self.now.buffers.items c.in_ok-pick.field-0.number
      c.in_ok-buffer.ensures.item)
      c.begin.new.self c.in_default.field-0 c.in_default.ensures.refused c.in_default.ensures.store
      c.in_default.ensures.refusal;
  refused =
      keeps_all c.args.self.now c.from.result
      (read_there c.args.self.now.placed_groups.items c.from.result
      c.in_ok-placed_group.ensures.item)
      c.in_ok-pick.field-0.number c.begin.new.self
      (read_there c.args.self.now.buffers.items c.in_ok-pick.field-0.number
      c.in_ok-buffer.ensures.item)
      c.in_default.ensures.refused c.in_default.ensures.store;
  calls =
      calls_same c.args.self.now c.in_ok-pick.field-0.number c.begin.new.self
      (read_there c.args.self.now.buffers.items c.in_ok-pick.field-0.number
      c.in_ok-buffer.ensures.item)
      (ap g.S.BlockStore.calls c.in_default.ensures.store);
}

pub returns : goal.returns
returns g c = record {
  begun = λ trusted w begun kept openings failures keeps can.
      is_begun keeps c.args.class c.args.length can c.from.ensures
      (read_there c.args.self.now.placed_groups.items c.from.result
      c.in_ok-placed_group.ensures.item)
      c.in_ok-pick.ensures
      (read_there c.args.self.now.buffers.items c.in_ok-pick.field-0.number
      c.in_ok-buffer.ensures.item)
      c.in-Ok.open c.in-Ok.ensures.store (c.begun.ensures.places can.group (begun c.args.group))
      c.in-Ok.ensures.refusal c.in-Ok.ensures.begun c.in-Ok.ensures.token c.in-Ok.ensures.leaves;
  refused = tt;
  calls =
      calls_same c.args.self.now c.in_ok-pick.field-0.number c.begin.new.self
      (read_there c.args.self.now.buffers.items c.in_ok-pick.field-0.number
      c.in_ok-buffer.ensures.item)
      (ap g.S.BlockStore.calls c.in-Ok.ensures.store);
}
