use Rattle.std.proofs.Common.{◌≡◌, ◌<◌, ap, arith, get_or, length, map}
use Rattle.relay_explain.specs.Buffers.{buffer_text, buffers_text}
use Rattle.relay_explain.proofs.Told.{told_all, told_more}
use Rattle.relay_explain.proofs.Puts.{nothing}
use Rattle.relay_explain.proofs.buffers.put_buffers.Goals as goal

pub loop-number-init : goal.loop-number-init
loop-number-init c = nothing _

pub loop-number-preserved : goal.loop-number-preserved
loop-number-preserved c =
    let all : length c.deref-buffer-items.result.now
    ≡ length c.args.config.now.buffers.buffers.items =
    ap length c.deref-buffer-items.ensures.value in
    let there : c.loop-number.number < length c.args.config.now.buffers.buffers.items =
    omega (arith, all, c.loop-number-test.true) in
    let one : c.buffer-item.result
    ≡ get_or c.args.config.now.buffers.buffers.items c.loop-number.number c.buffer-item.result =
    rw (ap (λ buffers. get_or buffers c.loop-number.number c.buffer-item.result)
    c.deref-buffer-items.ensures.value) at c.buffer-item.is in
    told_more
    (buffer_text c.args.config.now (map (λ line. line.now) c.args.lines.now) c.args.found.now)
    c.args.config.now.buffers.buffers.items c.loop-number.number c.buffer-item.result there
    c.loop-number.invariant (rw (← one) c.put_buffer-text.ensures)

pub returns : goal.returns
unfolding buffers_text
returns c =
    let all : length c.deref-buffer-items.result.now
    ≡ length c.args.config.now.buffers.buffers.items =
    ap length c.deref-buffer-items.ensures.value in
    told_all (buffer_text c.args.config.now (map (λ line. line.now) c.args.lines.now)
    c.args.found.now)
    c.args.config.now.buffers.buffers.items c.loop-number.number
    (omega (arith, all, c.loop-number-test.false)) c.loop-number.invariant
