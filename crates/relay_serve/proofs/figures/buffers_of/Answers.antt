use Rattle.std.proofs.Common.{◌∙◌, ◌+◌, ◌≤◌, ap, length, map, subst, sym}
use Rattle.std.proofs.lemmas.List.{take_all}
use Rattle.relay_report.specs.declared.figures.NamedBuffer.{NamedBuffer}
use Rattle.relay_live.proofs.Rooms.{index_fits_as, no_more, room_of}
use Rattle.buffer_files.proofs.Rows.{longer, one_more_made}
use Rattle.relay_serve.proofs.figures.buffers_of.Goals as goal

pub loop-number-init : goal.loop-number-init
loop-number-init g c =
    let none = c.in_ok-named.ensures.items in
    record {
      room = room_of _ _ _ c.in_ok-named.ensures.capacity
          (c.len.ensures ∙ c.args.config.now.buffers.buffers.ok.0);
      count = ap length none;
      names = ap (map (λ one. one.name)) none;
    }

-- there is room for one more,
pub push_reserved-requires : goal.push_reserved-requires
push_reserved-requires g c =
    index_fits_as _ _ _ _ _ (c.loop-number.named.ok.0 ∙ c.loop-number.invariant.count)
    c.loop-number-test.true (ap length c.deref-buffer-items.ensures.value)
    c.loop-number.invariant.room

-- which has the name of its buffer
pub loop-number-preserved : goal.loop-number-preserved
loop-number-preserved g c =
    let old = c.loop-number.named.items in
    let new = c.push_reserved.new.self.items in
    let one : NamedBuffer =
    record { name = c.in_ok-name.name; figures = c.in-Some.figures } in
    let before = c.loop-number.invariant in
    let pushed = c.push_reserved.ensures in
    record {
      room = subst (λ n. length c.args.config.now.buffers.buffers.items ≤ n)
          (sym pushed.capacity) before.room;
      count = longer (λ named. named.name) old new one pushed.items
          ∙ ap (λ n. n + 1) before.count;
      names = one_more_made (λ named. named.name) old new one pushed.items
          (λ buffer. buffer.name) c.deref-buffer-items.result.now
          c.args.config.now.buffers.buffers.items c.loop-number.number c.buffer-item.result
          c.deref-buffer-items.ensures.value c.loop-number-test.true c.buffer-item.is
          (c.in_ok-name.ensures ∙ c.as_slice.ensures) before.names;
    }

-- that was the last
pub returns : goal.returns
returns g c =
    c.loop-number.invariant.names
    ∙ ap (map (λ buffer. buffer.name))
    (take_all c.loop-number.number c.args.config.now.buffers.buffers.items
    (no_more _ _ _ (sym (ap length c.deref-buffer-items.ensures.value)) c.loop-number-test.false))
